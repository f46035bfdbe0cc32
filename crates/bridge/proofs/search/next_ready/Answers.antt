use Prim.Native.Nat.{ℕ}
use mathlib.Core.Path.{sym, ◌∙◌, ap}
use native.Mathlib.Omega.{arith}
use borrow.Author.Tests.{eq-eqb, ne_eqb}
use Rattle.bridge_rules.specs.State.{first_slot}
use Rattle.bridge.proofs.Searches.{ready_in, misses, hits, ends, whole}
use Rattle.bridge.proofs.search.next_ready.Goals as goal

pub loop-i-init : goal.loop-i-init
loop-i-init c = record { within = omega arith; rest = ap (λ (n : ℕ). first_slot (ready_in c.args.b.slots) n 4) (omega arith) }

pub loop-i-preserved : goal.loop-i-preserved
loop-i-preserved c = record {
  within = omega arith;
  rest = c.loop-i.invariant.rest ∙ misses _ _ _ (omega arith) (ne_eqb _ 1 c.if-b-k-eq-READY.false);
}

pub returns-then-i-eq4 : goal.returns-then-i-eq4
returns-then-i-eq4 c = sym (whole _ ∙ c.loop-i.invariant.rest ∙ ends _ _ _ (omega arith))

pub returns-then-b-k-eq-READY : goal.returns-then-b-k-eq-READY
returns-then-b-k-eq-READY c =
    sym (whole _ ∙ c.loop-i.invariant.rest ∙ hits _ _ _ (omega arith) (eq-eqb _ 1 c.if-b-k-eq-READY.true))
