use Rattle.std.proofs.Common.{◌≡◌, Float, Result, Ok, refl, sym, ◌∙◌}
use Rattle.wire.specs.declared.refusal.Refusal.{Refusal}
use Rattle.mlg_rules.specs.declared.Scaling.{Scaling}
use Rattle.std.proofs.lemmas.Result.{err_from_is_err_and}
use Rattle.wire.proofs.Orders.{order, if_no, if_zero, not_no}
use Rattle.mlg_rules.proofs.Told.{if_refused}
use Rattle.mlg_rules.specs.Shown.{parts_number, scaling_in}
use Rattle.mlg_values.proofs.scaling_in.Goals as goal

pub returns-then-not-is_shown-clause-number : goal.returns-then-not-is_shown-clause-number
unfolding parts_number
returns-then-not-is_shown-clause-number c = rw (← c.requires, ← c.is_shown.ensures) (search order depth 12)

pub returns-in_err-transform-clause-number : goal.returns-in_err-transform-clause-number
unfolding parts_number scaling_in
returns-in_err-transform-clause-number c =
    let r = err_from_is_err_and c.from_residual.result c.from_residual.ensures.1 in
    rw (r.1, r.2, ← c.requires, ← c.is_shown.ensures)
    (if_no 30 _ _ _ (not_no _ c.if-not-is_shown.false) (if_refused 30 _ _ _ c.in_err-transform.ensures.number))

pub returns-in_err-scale-clause-number : goal.returns-in_err-scale-clause-number
unfolding parts_number scaling_in
returns-in_err-scale-clause-number c =
    let r = err_from_is_err_and c.from_residual-in_err-scale.result c.from_residual-in_err-scale.ensures.1 in
    rw (r.1, r.2, ← c.requires, ← c.is_shown.ensures)
    (if_no 30 _ _ _ (not_no _ c.if-not-is_shown.false)
    (if_no 30 _ _ _ (if_zero 29 _ _ (sym c.in_ok-transform.ensures.number)).0 c.in_err-scale.ensures.number))

-- what Ok holds
same : {s t : Scaling} {x y : Float} → ◌≡◌ {A = Result Scaling Refusal} (Ok (record { scale = x; transform = y })) (Ok s) → x ≡ t.scale
    → y ≡ t.transform → s ≡ t
same {s} {t} {x} {y} e p q = let h : ◌≡◌ {A = Scaling} (record { scale = x; transform = y }) s = cc in sym h ∙ rw (p, q)

pub returns : goal.returns
unfolding parts_number scaling_in
returns c =
    record {
      number = rw (← c.requires, ← c.is_shown.ensures)
          (if_no 30 _ _ _ (not_no _ c.if-not-is_shown.false)
          (if_no 30 _ _ _ (if_zero 29 _ _ (sym c.in_ok-transform.ensures.number)).0 c.in_ok-scale.ensures.number));
      value = λ s is. same is (c.in_ok-scale.ensures.value _ refl) (c.in_ok-transform.ensures.value _ refl);
    }
