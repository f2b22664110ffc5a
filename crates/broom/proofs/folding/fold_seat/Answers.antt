use Rattle.broom.proofs.folding.fold_seat.Goals as goal

pub close_if_open-requires-2-clause-seat : goal.close_if_open-requires-2-clause-seat
close_if_open-requires-2-clause-seat c = c.use_spare.ensures.broom c.args.flash.now c.close_if_open.ensures.seat
