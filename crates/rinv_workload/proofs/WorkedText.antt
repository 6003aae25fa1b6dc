-- The lines of the workload of three queries, by computation.
use Rattle.std.specs.Prelude.{◌≡◌, codes, refl}
use Rattle.std.specs.Fmt.{digits}
use Rattle.rinv_workload.specs.Workload.{workload_text}

three : workload_text 3 ≡ codes "field 101\ngroup a, b\nspace x, y\nideal a^2+b^2-1\nunit 1, 0\nproduct a*a'-b*b', a*b'+b*a'\ninverse a, -b\naction a*x-b*y, b*x+a*y\ndef q = x^2+y^2\nrewrite (q+13)^2/(q+13+1)\nrewrite (q+37)^3/(q+37+1)\nrewrite ((q+75)^1+x)/(q+75+1)\n"
unfolding digits workload_text
three = refl
