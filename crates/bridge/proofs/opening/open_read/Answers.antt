use Rattle.bridge_rules.specs.Opening.{opened, read}
use Rattle.bridge_rules.specs.Answers.{both}
use Rattle.bridge.proofs.Searches.{givable_small}
use Rattle.bridge.proofs.Openings.{open_allowed, open_refused, open_begun}
use Rattle.bridge.proofs.opening.open_read.Goals as goal

pub begun-requires : goal.begun-requires
begun-requires c =
    let f = open_allowed _ _ _ c.in-Ok.ensures.0 in
    (givable_small c.args.b _ c.in-Ok.ensures.1, f.0, f.1)

pub returns-in-Ok : goal.returns-in-Ok
unfolding opened
returns-in-Ok c =
    let a = c.args in
    rw c.begun.ensures (open_begun a.b (both a.first.now a.second.now) (read a.device a.table a.offset a.count) c.in-Ok.ensures.0 _ c.in-Ok.ensures.1)

pub returns-in-Err : goal.returns-in-Err
returns-in-Err c =
    let a = c.args in
    rw c.refused.ensures (open_refused a.b (both a.first.now a.second.now) (read a.device a.table a.offset a.count) _ c.in-Err.ensures.0).0
