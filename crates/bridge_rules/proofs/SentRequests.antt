-- The frame that a turn yields tells the slot and the chunk: only a read's own slot sends its REQ.
use Prim.Native.Nat.{ℕ, ◌+◌, ◌*◌, ◌/◌, ◌<◌}
use mathlib.Core.Path.{◌≡◌, sym, ◌∙◌, ap}
use mathlib.Core.Logic.{◌⊎◌, inl, inr}
use mathlib.Core.Option.{some}
use mathlib.Core.Bool.{true}
use native.Mathlib.Omega.{arith}
use native.Mathlib.Decide.{dec_lt}
use lib.ListN.{get_or}
use Rattle.bus_rules.specs.Frames.{cmd, req}
use Rattle.bus_rules.specs.Ident.{id_of}
use Rattle.bridge_rules.specs.State.{Frame, Slot, asks, carries}
use Rattle.bridge_rules.specs.Opening.{ask_device, ask_table, ask_offset, ask_count}
use Rattle.bridge_rules.specs.Turn.{sent_frame, read_frame, chunk_len}
use Rattle.bridge_rules.specs.Run.{Run, state, buffers, Lawful, ledger, Transfer, slot_of, chunks, len_of}
use Rattle.bridge_rules.specs.Replies.{place, request_frame}
use Rattle.bridge_rules.proofs.KindTests.{asks_only}
use Rattle.bridge_rules.proofs.NumberLaws.{LawfulAsk}
use Rattle.bridge_rules.proofs.FrameLaws.{kinds_apart, id_of_lem, reply_byte, read_is, write_is}
use Rattle.bridge_rules.proofs.Search.{some_eq}
use Rattle.bridge_rules.proofs.SlotOk.{ReadyOk}
use Rattle.bridge_rules.proofs.SoundRuns.{storage_sound}
use Rattle.bridge_rules.proofs.LedgerAgrees.{own_is}
use Rattle.bridge_rules.proofs.Standing.{opened_at}

request_byte : (r : Run) (x : Transfer r) (c j : ℕ) → get_or (request_frame r x c j).bytes 1 0 ≡ (128 * slot_of r x + 8 * c) / 8
unfolding request_frame
request_byte r x c j = reply_byte _ 6 (place r x c) (len_of r x c)

request_id : (r : Run) (x : Transfer r) (c j : ℕ) → (request_frame r x c j).id
    ≡ id_of (ask_offset x.ask + 8 * c) req (ledger r j).own (ask_device x.ask) (ask_table x.ask)
unfolding request_frame
request_id r x c j = id_of_lem _ _

-- chunks are few
pub chunk_small : (r : Run) (w : Lawful r) (x : Transfer r) (c : ℕ) → c < chunks r x → (8 * c < ask_count x.ask) × (c < 16)
chunk_small r w x c h = (omega arith, omega (arith, (opened_at r w x).law.few))

-- a place in the buffer is one slot's, at one chunk
pub same_place : (k p d k' c : ℕ) → p ≡ 8 * d → d < 16 → c < 16 → (128 * k + p) / 8 ≡ (128 * k' + 8 * c) / 8 → (k ≡ k') × (d ≡ c)
same_place k p d k' c e a b z = go (dec_lt k k') (dec_lt k' k)
  where
    u : 16 * k + d ≡ 16 * k' + c
    u = omega arith

    go : Dec (k < k') → Dec (k' < k) → (k ≡ k') × (d ≡ c)
    go (yes q) t = absurd (omega (arith, u))
    go (no q) (yes t) = absurd (omega (arith, u))
    go (no q) (no t) = (omega arith, omega (arith, u))

module _ (r : Run) (w : Lawful r) (x : Transfer r) (c j : ℕ) (l : c < chunks r x) where
  -- a ready slot that sends this read's REQ is this read's, at this chunk
  pub sends_own : (k : ℕ) (y : Slot) → ReadyOk y → some (sent_frame (state r j).own k y (buffers r j)) ≡ some (request_frame r x c j)
      → k < 4
      → (k ≡ slot_of r x) × (y.progress ≡ 8 * c) × (asks y.kind ≡ true)
  sends_own k y o e kb = go o.held.kind
    where
      q : sent_frame (state r j).own k y (buffers r j) ≡ request_frame r x c j
      q = some_eq e

      a : LawfulAsk x.ask
      a = (opened_at r w x).law

      sm : (8 * c < ask_count x.ask) × (c < 16)
      sm = chunk_small r w x c l

      go : (carries y.kind ≡ true) ⊎ (asks y.kind ≡ true) → (k ≡ slot_of r x) × (y.progress ≡ 8 * c) × (asks y.kind ≡ true)
      go (inl u) =
          let z : id_of (y.offset + y.progress) cmd (state r j).own y.device y.table
          ≡ id_of (ask_offset x.ask + 8 * c) req (ledger r j).own (ask_device x.ask) (ask_table x.ask)
          = sym (id_of_lem _ _) ∙ ap (λ (f : Frame). f.id)
          (sym (write_is (state r j).own k y (buffers r j) u) ∙ q) ∙ request_id r x c j in
          absurd (kinds_apart _ _ _ _ _ _ _ _ (omega (arith, o.partway.below, o.held.args.inside)) (omega (arith, (storage_sound r w j).0.own))
          (omega (arith, o.held.args.device)) (omega (arith, o.held.args.table)) (omega (arith, sm.0, a.inside))
          (omega (arith, own_is r w j, (storage_sound r w j).0.own)) (omega (arith, a.device)) (omega (arith, a.table)) z)
      go (inr u) =
          let z : (128 * k + y.progress) / 8 ≡ (128 * slot_of r x + 8 * c) / 8
          = sym (reply_byte _ 6 (128 * k + y.progress) (chunk_len y.count y.progress)) ∙ ap (λ (f : Frame). get_or f.bytes 1 0)
          (sym (read_is (state r j).own k y (buffers r j) u) ∙ q) ∙ request_byte r x c j in
          let pl : (k ≡ slot_of r x) × (o.partway.chunk ≡ c) = same_place k y.progress o.partway.chunk (slot_of r x) c o.partway.at
          (omega (arith, o.partway.at, o.partway.below, o.held.args.few)) sm.1 z in
          (pl.0, o.partway.at ∙ ap (λ (n : ℕ). 8 * n) pl.1, u)

-- the frame that a read's slot sends is its REQ for the current chunk
pub sends_request : (r : Run) (w : Lawful r) (x : Transfer r) (c n : ℕ) (y : Slot) → asks y.kind ≡ true → y.progress ≡ 8 * c
    → y.device ≡ ask_device x.ask → y.table ≡ ask_table x.ask
    → y.offset ≡ ask_offset x.ask → y.count ≡ ask_count x.ask
    → sent_frame (state r n).own (slot_of r x) y (buffers r n) ≡ request_frame r x c n
unfolding sent_frame read_frame request_frame
sends_request r w x c n y u p d t o k = rw (asks_only y.kind u, p, d, t, o, k, own_is r w n)
