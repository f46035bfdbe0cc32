-- What a ready slot sends: a REQ tells its slot, and a CMD is no REQ.
use Prim.Native.Nat.{ℕ, ◌+◌, ◌*◌, ◌/◌, ◌≤◌, ◌<◌}
use mathlib.Core.Path.{◌≡◌, ◌∙◌, ap}
use mathlib.Core.Bool.{true}
use native.Mathlib.Omega.{arith}
use Rattle.bus_rules.specs.Frames.{cmd, req}
use Rattle.bus_rules.specs.Holder.{request_at}
use Rattle.bus_rules.specs.Ident.{id_of, id_kind}
use Rattle.bus_rules.proofs.IdentLaws.{kind_of_id}
use Rattle.bus_rules.proofs.Replies.{request_read}
use Rattle.bridge_rules.specs.State.{Frame, Slot, asks, carries}
use Rattle.bridge_rules.specs.Answers.{Buffers}
use Rattle.bridge_rules.specs.Turn.{sent_frame, chunk_len}
use Rattle.bridge_rules.specs.Run.{slot_asked}
use Rattle.bridge_rules.proofs.FrameLaws.{len_eight, id_of_lem, read_is, write_is}
use Rattle.bridge_rules.proofs.SlotOk.{ReadyOk}

module _ (own k : ℕ) (y : Slot) (b : Buffers) (r : ReadyOk y) (o : own ≤ 15) where
  kind_is : (kind : ℕ) → kind < 8 → id_kind (id_of (y.offset + y.progress) kind own y.device y.table) ≡ kind
  kind_is kind l = kind_of_id (y.offset + y.progress) kind own y.device y.table
      (omega (arith, r.partway.below, r.held.args.inside)) l (omega arith) (omega (arith, r.held.args.device))
      (omega (arith, r.held.args.table))

  pub asked_kind : asks y.kind ≡ true → id_kind (sent_frame own k y b).id ≡ req
  asked_kind u = ap (λ (f : Frame). id_kind f.id) (read_is own k y b u) ∙ ap id_kind (id_of_lem _ _) ∙ kind_is req (omega arith)

  pub carried_kind : carries y.kind ≡ true → id_kind (sent_frame own k y b).id ≡ cmd
  carried_kind u = ap (λ (f : Frame). id_kind f.id) (write_is own k y b u) ∙ ap id_kind (id_of_lem _ _) ∙ kind_is cmd (omega arith)

  pub asked_slot : asks y.kind ≡ true → slot_asked (sent_frame own k y b) ≡ k
  unfolding slot_asked
  asked_slot u =
      let e : (request_at (sent_frame own k y b) 0).offset ≡ 128 * k + y.progress = ap (λ (f : Frame). (request_at f 0).offset) (read_is own k y b u)
      ∙ (request_read _ (128 * k + y.progress) (chunk_len y.count y.progress) (16 * k + r.partway.chunk)
      (len_eight y.count y.progress) (omega (arith, r.partway.at))).1 in
      ap (λ (n : ℕ). n / 128) e ∙ omega (arith, r.partway.below, r.held.args.few)
