use mathlib.Core.Path.{ap}
use Prim.Native.Nat.{ℕ}
use lib.Dec.{leb}
use lib.ListN.{take, drop}
use native.Mathlib.Nat.{add-sub_cancel_left}
use Rattle.wire.specs.Text.{text_len}
use Rattle.mlg_rules.specs.Fields.{unended}
use Rattle.mlg.proofs.fields.unended.Goals as goal

pub returns : goal.returns
unfolding unended
returns c =
    let a = c.args in
    rw c.text_len.ensures (ap (λ (k : ℕ). leb a.n (text_len (take k (drop a.at a.d.now)))) (add-sub_cancel_left a.at a.n))
