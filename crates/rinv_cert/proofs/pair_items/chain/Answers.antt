use Rattle.rinv_cert.proofs.pair_items.chain.Goals as goal
