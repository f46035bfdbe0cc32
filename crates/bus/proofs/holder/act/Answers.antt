use borrow.Author.Rules.{rules}
use Prim.Native.Nat.{ℕ, ◌+◌, ◌≤◌}
use native.Mathlib.Omega.{arith}
use mathlib.Core.Logic.{⊎_elim}
use Rattle.std.proofs.Common.{◌≢◌}
use mathlib.Core.List.{List}
use mathlib.Core.Path.{◌≡◌, sym, ◌∙◌, ap, ap₂}
use lib.ListN.{length, take, drop}
use lib.Seq.{sets}
use Rattle.bus_rules.specs.declared.RequestRead.{RequestRead}
use Rattle.bus_rules.specs.declared.HolderState.{HolderState}
use Rattle.bus_rules.specs.declared.Directory.{Directory}
use Rattle.bus_rules.specs.declared.Frame.{Frame}
use Rattle.bus_rules.specs.Ident.{id_kind}
use Rattle.bus_rules.specs.Frames.{cmd, req, burn, xtnd, content}
use Rattle.bus_rules.specs.Device.{Device, device, range_of, start_of, size_of, copy_table, currently, with_current}
use Rattle.bus_rules.specs.Holder.{request_at, table_of, reply_to, acknowledgement, place_of, acting, storing, burning}
use Rattle.bus_rules.proofs.IdentLaws.{AreParts, are_parts, from_small, table_small}
use Rattle.bus_rules.proofs.FrameLaws.{content_min}
use Rattle.bus_rules.proofs.Directories.{table_within}
use Rattle.bus_rules.proofs.Cases.{Accepted, accepted, accepted_acting, command_fits, request_fits, query_fits, served_type, same_held}
use Rattle.bus_rules.proofs.Cases.{act_command, act_request, act_burn, act_query}
use Rattle.bus.proofs.holder.act.Goals as goal
use Rattle.bus.proofs.holder.act.Goals.{Start}

abbrev frame : Start → Frame
frame s = s.args.a.received.frame

-- the device before the call, and the one that a CMD, REQ or BURN acts on
abbrev before : Start → Device
before s = device s.args.d s.args.s s.args.memory.now s.args.flash.now

abbrev acted-on : Start → Device
acted-on s = acting (before s) (frame s)

not_refused : (s : Start) → Accepted (before s) (frame s)
not_refused s = accepted (before s) (frame s) s.requires.0

on_acting : (s : Start) → Accepted (acted-on s) (frame s)
on_acting s = accepted_acting (before s) (frame s) (not_refused s)

eight : (s : Start) → length (frame s).bytes ≡ 8
eight s = search rules

parts : (s : Start) → AreParts (frame s).id s.args.a.received.parts
parts s = are_parts (frame s).id s.args.a.received.parts s.args.a.received.read

sender : (s : Start) → s.args.a.received.parts.from ≤ 15
sender s = omega (arith, (parts s).from, from_small (frame s).id)

-- where the frame's offset lies
place : (s : Start) → s.args.a.table.start + s.args.a.received.parts.offset ≡ place_of (acted-on s) (frame s)
unfolding place_of with_current
place s = ap₂ (λ (x y : ℕ). x + y) s.requires.1.start (parts s).offset

-- a reply to one sender, of one place of one memory
same_reply : {to to' at at' : ℕ} {m m' : List ℕ} (own : ℕ) (q : RequestRead) (n : ℕ) → to ≡ to' → at ≡ at' → m ≡ m'
    → reply_to own to q (take n (drop at m)) ≡ reply_to own to' q (take n (drop at' m'))
same_reply own q n e g h = rw (e, g, h)

-- the addressed table
start-of : (s : Start) → s.args.a.table.start ≡ start_of s.args.d s.args.a.received.parts.table
start-of s = s.requires.1.start ∙ ap (start_of s.args.d) (sym (parts s).table)

size-of : (s : Start) → s.args.a.table.size ≡ size_of s.args.d s.args.a.received.parts.table
size-of s = s.requires.1.size ∙ ap (size_of s.args.d) (sym (parts s).table)

-- it lies within both memories
within : (s : Start)
    → (s.args.a.table.start + s.args.a.table.size ≤ length s.args.memory.now) × (s.args.a.table.start + s.args.a.table.size ≤ length s.args.flash.now)
within s =
    let a = not_refused s in
    let w = table_within s.args.d (table_of (frame s)) (omega (arith, table_small (frame s).id)) in
    (omega (arith, s.requires.1.start, s.requires.1.size, w, a.memory), omega (arith, s.requires.1.start, s.requires.1.size, w, a.flash))

same_total : (s : Start) → length (acted-on s).memory ≡ length s.args.memory.now
unfolding with_current
same_total s = (on_acting s).memory ∙ sym (not_refused s).memory

-- the table is current, and memory is that of the device which the frame acts on
current : (s : Start) (r : HolderState) → r ≡ currently s.args.s.family s.args.a.received.parts.table → r ≡ currently s.args.s.family (table_of (frame s))
current s r e = e ∙ ap (currently s.args.s.family) (parts s).table

acted-on-memory : (s : Start) (m : List ℕ) → ((d : Directory) → s.args.a.table.start ≡ start_of d s.args.a.received.parts.table
    → s.args.a.table.size ≡ size_of d s.args.a.received.parts.table
    → m ≡ (with_current (device d s.args.s s.args.memory.now s.args.flash.now) s.args.a.received.parts.table).memory) → m ≡ (acted-on s).memory
acted-on-memory s m e = e s.args.d (start-of s) (size-of s) ∙ ap (λ (k : ℕ). (with_current (before s) k).memory) (parts s).table

-- the frame's type, by the tests of it
is_kind : (s : Start) (k : ℕ) → s.args.a.received.parts.kind ≡ k → id_kind (frame s).id ≡ k
is_kind s k e = sym (parts s).kind ∙ e

burns : (s : Start) → s.args.a.received.parts.kind ≢ cmd → s.args.a.received.parts.kind ≢ req → s.args.a.received.parts.kind ≢ xtnd
    → id_kind (frame s).id ≡ burn
burns s c r x =
    let k = (parts s).kind in
    served_type (before s) (frame s) (not_refused s) (λ e. absurd (c (k ∙ e))) (λ e. absurd (r (k ∙ e))) (λ e. e) (λ e. absurd (x (k ∙ e)))

in_rows : (s : Start) → (s.args.d.own ≤ 15) × (s.args.a.received.parts.from ≤ 15)
in_rows s = ((not_refused s).directory.own, sender s)

pub invariant_of-route : goal.invariant_of-route
invariant_of-route c = record { in_rows = in_rows (goal.at.invariant_of-route c).Start }

pub invariant_of-route-then-p-eq-REQ : goal.invariant_of-route-then-p-eq-REQ
invariant_of-route-then-p-eq-REQ c = record { in_rows = in_rows (goal.at.invariant_of-route-then-p-eq-REQ c).Start }

pub invariant_of-route-2 : goal.invariant_of-route-2
invariant_of-route-2 c = record { in_rows = in_rows (goal.at.invariant_of-route-2 c).Start }

pub answer_query-requires : goal.answer_query-requires
answer_query-requires c =
    let s = (goal.at.answer_query-requires c).Start in
    let n = query_fits (before s) c.args.a.received.frame (not_refused s) (is_kind s _ c.if-p-eq-XTND.true) in
    ⊎_elim (λ w. omega arith) (λ w. omega arith) n

pub returns-then-p-eq-XTND : goal.returns-then-p-eq-XTND
returns-then-p-eq-XTND c =
    let s = (goal.at.returns-then-p-eq-XTND c).Start in
    let e = act_query (before s) c.args.a.received.frame (is_kind s _ c.if-p-eq-XTND.true) in
    let m = same_held e.1 in (
      (rw (parts s).from at c.answer_query.ensures) ∙ sym e.0,
      m.0,
      m.1,
      m.2,
    )

pub make_current-state-requires : goal.make_current-state-requires
make_current-state-requires c =
    let w = within (goal.at.make_current-state-requires c).Start in
    (omega (arith, w), omega (arith, w))

pub copy_content-requires : goal.copy_content-requires
copy_content-requires c =
    let s = (goal.at.copy_content-requires c).Start in
    let r = command_fits (acted-on s) (frame s) (on_acting s) (is_kind s _ c.if-p-eq-CMD.true) in
    let m = acted-on-memory s _ c.make_current-state.ensures.1 in
    omega (arith, r.1, place s, content_min (frame s) (eight s), ap length m)

pub returns-then-p-eq-CMD : goal.returns-then-p-eq-CMD
unfolding storing with_current
returns-then-p-eq-CMD c =
    let s = (goal.at.returns-then-p-eq-CMD c).Start in
    let e = act_command (before s) (frame s) (is_kind s _ c.if-p-eq-CMD.true) in
    let m = same_held e.1 in
    let a = acted-on-memory s _ c.make_current-state.ensures.1 in (
      sym e.0,
      current s _ c.make_current-state.ensures.0 ∙ m.0,
      (rw (place s) at c.copy_content.ensures) ∙ ap (λ (x : List ℕ). sets x (place_of (acted-on s) (frame s)) (content (frame s))) a ∙ m.1,
      m.2,
    )

pub answer_request-requires : goal.answer_request-requires
answer_request-requires c =
    let s = (goal.at.answer_request-requires c).Start in
    let r = request_fits (acted-on s) (frame s) (on_acting s) (is_kind s _ c.if-p-eq-REQ.true) in
    let m = acted-on-memory s _ c.make_current-state.ensures.1 in
    (r.0, omega (arith, r.2, place s, ap length m))

pub returns-then-p-eq-REQ : goal.returns-then-p-eq-REQ
unfolding range_of place_of with_current
returns-then-p-eq-REQ c =
    let s = (goal.at.returns-then-p-eq-REQ c).Start in
    let e = act_request (before s) (frame s) (is_kind s _ c.if-p-eq-REQ.true) in
    let n = (request_at (frame s) 0).count in
    let m = same_held e.1 in
    let a = acted-on-memory s _ c.make_current-state.ensures.1 in (
      c.answer_request.ensures ∙ same_reply _ _ n (parts s).from (place s) a ∙ sym e.0,
      current s _ c.make_current-state.ensures.0 ∙ m.0,
      a ∙ m.1,
      m.2,
    )

pub copy-requires : goal.copy-requires
copy-requires c =
    let s = (goal.at.copy-requires c).Start in
    let m = ap length (acted-on-memory s _ c.make_current-state.ensures.1) ∙ same_total s in
    let w = within s in
    (omega (arith, w, m), omega (arith, w, m))

pub acknowledge-requires : goal.acknowledge-requires
acknowledge-requires c =
    let s = (goal.at.acknowledge-requires c).Start in
    omega (arith, (parts s).table, table_small (frame s).id)

pub returns : goal.returns
unfolding burning with_current
returns c =
    let s = (goal.at.returns c).Start in
    let e = act_burn (before s) (frame s) (burns s c.if-p-eq-CMD.false c.if-p-eq-REQ.false c.if-p-eq-XTND.false) in
    let m = same_held e.1 in
    let a = acted-on-memory s _ c.make_current-state.ensures.1 in (
      c.acknowledge.ensures ∙ ap₂ (acknowledgement s.args.d.own) (parts s).from (parts s).table ∙ sym e.0,
      current s _ c.make_current-state.ensures.0 ∙ m.0,
      a ∙ m.1,
      c.copy.ensures s.args.d (table_of (frame s)) s.requires.1.start s.requires.1.size
          ∙ ap (λ (x : List ℕ). copy_table s.args.d (table_of (frame s)) x s.args.flash.now) a ∙ m.2,
    )
