use Rattle.rinv_cert.proofs.pair_items.coprime.Goals as goal
