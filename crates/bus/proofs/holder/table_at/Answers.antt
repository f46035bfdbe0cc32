use Rattle.std.proofs.Common.{◌≡◌, length, take, get_or, refl, ◌∙◌, ap, arith, rules, w16, Fits}
use Rattle.std.proofs.lemmas.List.{get_or-take, length-take-le}
use Rattle.bus_rules.specs.Device.{size_of, right_of, start_of}
use Rattle.bus_rules.proofs.Directories.{start_next}
use Rattle.bus.proofs.holder.table_at.Goals as goal
use Rattle.bus.proofs.holder.table_at.Goals.{Start, In-loop-size}

-- the sizes before table k
before : (s : Start) → length (take s.args.k s.args.d.sizes) ≡ s.args.k
before s =
    let l : length s.args.d.sizes ≡ 32 = search rules in
    length-take-le s.args.k s.args.d.sizes (omega arith)

pub loop-size-init : goal.loop-size-init
unfolding start_of
loop-size-init c = (omega arith, refl)

-- an element of the array fits its type
element : (c : In-loop-size) → Fits w16 (get_or (take c.args.k c.args.d.sizes) c.loop-size.size-index 0)
element c =
    let e : Fits w16 (get_or c.args.d.sizes c.loop-size.size-index 0) = search rules in
    rw (get_or-take c.args.k c.args.d.sizes c.loop-size.size-index 0 (omega arith)) e

pub overflow_add-start : goal.overflow_add-start
overflow_add-start c =
    let b = before (goal.at.overflow_add-start c).Start in
    omega (arith, element (goal.at.overflow_add-start c).In-loop-size, b)

pub loop-size-preserved : goal.loop-size-preserved
unfolding size_of
loop-size-preserved c =
    let d = c.args.d in
    let i = c.loop-size.size-index in
    let b = before (goal.at.loop-size-preserved c).Start in
    let e = get_or-take c.args.k d.sizes i 0 (omega (arith, b)) in
    (omega (arith, element (goal.at.loop-size-preserved c).In-loop-size), rw (e, start_next d i, ← c.loop-size.invariant.1))

pub returns : goal.returns
unfolding size_of right_of
returns c =
    let e : c.loop-size.size-index ≡ c.args.k = omega (arith, before (goal.at.returns c).Start) in
    (c.loop-size.invariant.1 ∙ ap (start_of c.args.d) e, refl, refl, omega arith)
