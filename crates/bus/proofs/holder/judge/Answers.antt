use Rattle.std.proofs.Common.{◌≡◌, ℕ, length, sym, ◌∙◌, ap, arith}
use Rattle.std.proofs.lemmas.Result.{err_from_is_err_and}
use Rattle.wire.specs.declared.refusal.Refusal.{Refusal}
use Rattle.wire.specs.Order.{◌or_else◌}
use Rattle.wire.specs.Refusals.{code}
use Rattle.wire.proofs.Orders.{order}
use Rattle.bus_rules.specs.declared.Frame.{Frame}
use Rattle.bus_rules.specs.Ident.{id_table}
use Rattle.bus_rules.specs.Frames.{head_number}
use Rattle.bus_rules.specs.Device.{Device, own_of, size_of, right_of, memory_number, state_number, device}
use Rattle.bus_rules.specs.Holder.{kind_number, device_number, serve_number}
use Rattle.bus_rules.proofs.IdentLaws.{table_small}
use Rattle.bus.proofs.holder.judge.Goals as goal
use Rattle.bus.proofs.holder.judge.Goals.{After-new-received}

-- 11 and 10, then the frame's
first-number : (e : Device) (f : Frame) (x : Refusal)
    → code x ≡ (state_number e.directory e.state or_else memory_number e.directory (length e.memory) (length e.flash)) → code x ≡ serve_number e f
unfolding serve_number device_number
first-number e f x h = search order depth 12

later-number : (e : Device) (f : Frame) (k : ℕ)
    → 0 ≡ (state_number e.directory e.state or_else memory_number e.directory (length e.memory) (length e.flash))
    → k ≡ (head_number (own_of e) f or_else kind_number e f) → k ≡ serve_number e f
unfolding serve_number device_number
later-number e f k z l = search order depth 12

pub table_at-table-requires : goal.table_at-table-requires
table_at-table-requires c = omega (arith, c.table_of.ensures, table_small c.args.f.id)

-- the addressed table
size : (c : After-new-received) → c.table_at-table.result.size ≡ size_of c.args.d (id_table c.new-received.result.frame.id)
size c = c.table_at-table.ensures.1 ∙ ap (size_of c.args.d) (c.table_of.ensures ∙ ap (λ (f : Frame). id_table f.id) (sym c.new-received.ensures))

right : (c : After-new-received) → c.table_at-table.result.right ≡ right_of c.args.d (id_table c.new-received.result.frame.id)
right c = c.table_at-table.ensures.2 ∙ ap (right_of c.args.d) (c.table_of.ensures ∙ ap (λ (f : Frame). id_table f.id) (sym c.new-received.ensures))

pub returns-in_err-check_device-clause-number : goal.returns-in_err-check_device-clause-number
returns-in_err-check_device-clause-number c = λ m n h k.
    let r = err_from_is_err_and c.from_residual.result c.from_residual.ensures.1 in
    let e = device c.args.d c.args.s m n in
    rw (r.1, r.2) (first-number e c.args.f _ (rw (← h, ← k) at c.in_err-check_device.ensures))

pub returns-in_err-check_frame-clause-number : goal.returns-in_err-check_frame-clause-number
returns-in_err-check_frame-clause-number c = λ m n h k.
    let r = err_from_is_err_and c.from_residual-in_err-check_frame.result c.from_residual-in_err-check_frame.ensures.1 in
    let b = (goal.at.returns-in_err-check_frame-clause-number c).After-new-received in
    let e = device c.args.d c.args.s m n in
    let z = rw (← h, ← k) at c.in_ok-check_device.ensures in
    let l = rw c.new-received.ensures at (c.in_err-check_frame.ensures e (size b) (right b)) in
    rw (r.1, r.2) (later-number e c.args.f _ z l)

pub returns-clause-number : goal.returns-clause-number
returns-clause-number c = λ m n h k.
    let b = (goal.at.returns-clause-number c).After-new-received in
    let e = device c.args.d c.args.s m n in
    let z = rw (← h, ← k) at c.in_ok-check_device.ensures in
    let l = rw c.new-received.ensures at (c.in_ok-check_frame.ensures e (size b) (right b)) in
    later-number e c.args.f _ z l
