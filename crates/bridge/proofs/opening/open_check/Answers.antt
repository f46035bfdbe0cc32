use mathlib.Core.Path.{refl, ap, ◌∙◌}
use native.Mathlib.Omega.{arith}
use Rattle.bridge_rules.specs.Opening.{opened, open_number, check}
use Rattle.bridge_rules.specs.Answers.{Buffers, both}
use Rattle.bridge.proofs.Searches.{givable_small}
use Rattle.bridge.proofs.Openings.{open_allowed, open_refused, open_begun, open_copied}
use Rattle.bridge.proofs.opening.open_check.Goals as goal

pub overflow_mul-k : goal.overflow_mul-k
overflow_mul-k c = omega (arith, givable_small c.args.b _ c.in-Ok.ensures.1)

pub begun-requires : goal.begun-requires
begun-requires c =
    let f = open_allowed _ _ _ c.in-Ok.ensures.0 in
    (givable_small c.args.b _ c.in-Ok.ensures.1, f.0, f.1)

pub returns-in-Ok : goal.returns-in-Ok
unfolding opened open_number
returns-in-Ok c =
    let a = c.args in
    let l = both a.first.now a.second.now in
    let ask = check a.device a.table a.offset a.bytes.now in (
      rw c.begun.ensures (open_begun a.b l ask c.in-Ok.ensures.0 _ c.in-Ok.ensures.1),
      c.put.ensures ∙ open_copied a.b l ask c.in-Ok.ensures.0 _ c.in-Ok.ensures.1 (λ (r : Buffers). r.second) _ (λ r. r.1) refl refl,
    )

pub returns-in-Err : goal.returns-in-Err
unfolding open_number
returns-in-Err c =
    let a = c.args in
    let g = open_refused a.b (both a.first.now a.second.now) (check a.device a.table a.offset a.bytes.now) _ c.in-Err.ensures.0 in
    (rw c.refused.ensures g.0, ap (λ (r : Buffers). r.second) g.1)
