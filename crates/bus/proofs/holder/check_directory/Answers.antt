use Rattle.std.proofs.Common.{◌≡◌, ◌&&◌, leb, refl, sym, ◌∙◌, ap, arith, rules, get_or, w16, Fits}
use Rattle.bus_rules.specs.Device.{size_of, right_of, start_of, total_of, sound_tables, sound_directory}
use Rattle.bus_rules.proofs.Directories.{start_next, tables_next, sound_number, unsound_number}
use Rattle.bus.proofs.holder.check_directory.Goals as goal
use Rattle.bus.proofs.holder.check_directory.Goals.{In-loop-i, After-loop-i}

pub loop-i-init : goal.loop-i-init
unfolding start_of sound_tables
loop-i-init c = (omega arith, refl, refl)

-- an element of the array fits its type
element : (c : In-loop-i) → Fits w16 (get_or c.args.d.sizes c.loop-i.i 0)
element c = search rules

pub overflow_add-total : goal.overflow_add-total
overflow_add-total c = omega (arith, element (goal.at.overflow_add-total c).In-loop-i)

pub loop-i-preserved : goal.loop-i-preserved
unfolding size_of right_of
loop-i-preserved c =
    let d = c.args.d in
    let i = c.loop-i.i in
    let inv = c.loop-i.invariant in
    (omega (arith, element (goal.at.loop-i-preserved c).In-loop-i), rw (tables_next d i, ← inv.1), rw (start_next d i, ← inv.2))

-- the total, and what the last test judges
total : (c : After-loop-i) → c.loop-i.total ≡ total_of c.args.d
unfolding total_of
total c = let e : c.loop-i.i ≡ 32 = omega arith in c.loop-i.invariant.2 ∙ ap (start_of c.args.d) e

judged : (c : After-loop-i)
    → (leb c.args.d.own 15 && c.loop-i.sound && leb c.loop-i.total 32768) ≡ sound_directory c.args.d
unfolding sound_directory
judged c =
    let e : c.loop-i.i ≡ 32 = omega arith in
    let s = c.loop-i.invariant.1 ∙ ap (sound_tables c.args.d) e in
    rw (s, total c)

pub returns-then-d-sound-clause-number : goal.returns-then-d-sound-clause-number
returns-then-d-sound-clause-number c =
    let j = judged (goal.at.returns-then-d-sound-clause-number c).After-loop-i in
    sound_number c.args.d (sym j ∙ c.if-d-sound.true)

pub returns-then-d-sound-clause-total : goal.returns-then-d-sound-clause-total
returns-then-d-sound-clause-total c = total (goal.at.returns-then-d-sound-clause-total c).After-loop-i

pub returns-else-d-sound-clause-number : goal.returns-else-d-sound-clause-number
returns-else-d-sound-clause-number c =
    let j = judged (goal.at.returns-else-d-sound-clause-number c).After-loop-i in
    unsound_number c.args.d (sym j ∙ c.if-d-sound.false)
