use Rattle.bridge.proofs.Closings.{close_refused, close_frees}
use Rattle.bridge.proofs.Searches.{held_small}
use Rattle.bridge.proofs.ending.close.Goals as goal

pub with_slot-requires : goal.with_slot-requires
with_slot-requires c = held_small c.args.b c.args.ticket _ c.in-Ok.ensures.1

pub returns-in-Ok : goal.returns-in-Ok
returns-in-Ok c = rw (c.with_slot.ensures, c.blank.ensures) (close_frees c.args.b c.args.ticket c.in-Ok.ensures.0 _ c.in-Ok.ensures.1)

pub returns-in-Err : goal.returns-in-Err
returns-in-Err c = rw c.refused.ensures (close_refused c.args.b c.args.ticket _ c.in-Err.ensures.0)
