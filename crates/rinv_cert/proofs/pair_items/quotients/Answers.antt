use Rattle.rinv_cert.proofs.pair_items.quotients.Goals as goal
