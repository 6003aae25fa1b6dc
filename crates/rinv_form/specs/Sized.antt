-- The sizes of a certificate.
use Rattle.std.specs.Prelude.{◌≡◌, ◌≤◌, ◌+◌, ◌*◌, None, length}
use Rattle.rinv_defs.specs.System.{System, group_count, space_count}
use Rattle.rinv_defs.specs.Certificate.{Certificate}
use Rattle.rinv_form.specs.declared.frame.Frame.{Frame}
use Rattle.rinv_form.specs.declared.sizes.Sizes.{Sizes}
use Rattle.rinv_form.specs.Stops.{frame_failure}

-- the field and the numbers of variables are the system's, and its names have their form
pub record IsFrame (s : System) (f : Frame) : Type 0 where
  pub field : f.field ≡ s.p
  pub group : f.group ≡ group_count s
  pub space : f.space ≡ space_count s
  pub few_group : f.group ≤ 8
  pub few_space : f.space ≤ 8
  pub form : frame_failure s ≡ None

-- the field, the numbers of variables, and the lengths of the lists are the certificate's
pub record IsSized (c : Certificate) (z : Sizes) : Type 0 where
  pub field : z.field ≡ c.system.p
  pub group : z.group ≡ group_count c.system
  pub space : z.space ≡ space_count c.system
  pub whole : z.whole ≡ group_count c.system + space_count c.system
  pub graph : z.graph ≡ group_count c.system + 2 * space_count c.system
  pub ideal : z.ideal ≡ length c.system.ideal
  pub basis : z.basis ≡ length c.basis
  pub fractions : z.fractions ≡ length c.fractions
  pub few_group : z.group ≤ 8
  pub few_space : z.space ≤ 8
