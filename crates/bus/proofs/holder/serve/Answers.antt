use Rattle.std.proofs.Common.{◌≡◌, ℕ, List, get_or, refl, sym, ◌∙◌, arith, w8, Fits, rules}
use Rattle.wire.proofs.RefusalLaws.{code_ne0}
use Rattle.bus_rules.specs.declared.HolderState.{HolderState}
use Rattle.bus_rules.specs.declared.Served.{Served}
use Rattle.bus_rules.specs.Device.{Device, device}
use Rattle.bus_rules.specs.Holder.{byte_of, serve_of, device_after}
use Rattle.bus_rules.specs.Demand2.{Demand2}
use Rattle.bus_rules.proofs.Cases.{served_case, refused_case, device_after_lem, same_held}
use Rattle.bus_rules.proofs.FrameLaws.{IsFrame}
use Rattle.bus_rules.proofs.Demand2.{demand2}
use Rattle.bus_rules.proofs.AllExamples.{examples}
use Rattle.bus.proofs.holder.serve.Goals as goal
use Rattle.bus.proofs.holder.serve.Goals.{Start}

-- the device before the call
abbrev before : Start → Device
before s = device s.args.d s.args.s s.args.memory.now s.args.flash.now

-- demand 2, of the values that the code's arguments have
demanded : (s : Start) (r : Served) (t : HolderState) (m k : List ℕ) → r ≡ serve_of (before s) s.args.f
    → t ≡ (device_after (before s) s.args.f).state → m ≡ (device_after (before s) s.args.f).memory → k ≡ (device_after (before s) s.args.f).flash
    → Demand2 (before s) s.args.f r (device s.args.d t m k)
unfolding byte_of
demanded s r t m k p h q g =
    let a = s.args in
    let w : IsFrame a.f =
    record { eight = search rules; bytes = λ i l. let h : Fits w8 (get_or a.f.bytes i 0) = search rules in omega arith } in
    demand2 (before s) a.f w r (device a.d t m k) p (device_after_lem (before s) a.f t m k h q g) (search rules) (search rules)

pub returns-in-Ok : goal.returns-in-Ok
returns-in-Ok c =
    let s = (goal.at.returns-in-Ok c).Start in
    let e = served_case (before s) s.args.f (sym (c.in-Ok.ensures.number s.args.memory.now s.args.flash.now refl refl)) in
    let m = same_held e.1 in
    let a = rw c.in-Ok.ensures.addressed.frame at c.act.ensures in
    let p = a.0 ∙ sym e.0 in
    let h = a.1 ∙ m.0 in
    let q = a.2 ∙ m.1 in
    let g = a.3 ∙ m.2 in
    record { served_value = (p, h, q, g); demand2 = demanded s _ _ _ _ p h q g; examples = examples }

pub returns-in-Err : goal.returns-in-Err
returns-in-Err c =
    let s = (goal.at.returns-in-Err c).Start in
    let n = c.in-Err.ensures.number s.args.memory.now s.args.flash.now refl refl in
    let w = refused_case (before s) s.args.f _ (sym n) (code_ne0 c.in-Err.e) in
    let p = sym w.0 in
    let m = same_held w.1 in
    record { served_value = (p, m.0, m.1, m.2); demand2 = demanded s _ _ _ _ p m.0 m.1 m.2; examples = examples }
