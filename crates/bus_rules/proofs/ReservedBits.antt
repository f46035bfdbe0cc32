-- Reserved bits change the mark and nothing else: a request with these bits cleared gets the same number and reply; and what the mark says.
use mathlib.Core.Path.{◌≡◌, refl, sym, ◌∙◌, ap, subst}
use mathlib.Core.Logic.{inl, inr, ⊎_elim, ◌≢◌}
use mathlib.Core.List.{List, [], ◌∷◌}
use Prim.Native.Nat.{ℕ, zero, suc, ◌+◌, ◌≤◌, ◌<◌}
use native.Mathlib.Nat.{zero-add}
use native.Mathlib.Omega.{arith}
use lib.ListN.{length, get_or}
use Rattle.wire.proofs.Puts.{sets_in, sets_outside}
use Rattle.bus_rules.specs.Ident.{id_kind}
use Rattle.bus_rules.specs.Frames.{Frame, cmd, req, burn, xtnd}
use Rattle.bus_rules.specs.Request.{RequestRead, read_request_of}
use Rattle.bus_rules.specs.Rows.{cleared}
use Rattle.bus_rules.specs.Device.{Device}
use Rattle.bus_rules.specs.Holder.{Served, serve_number, byte_of, read_at, request_at, no_answer, answer_with, acknowledgement, serve_of, device_after}
use Rattle.bus_rules.specs.Demand2.{Clear, cleared_at, AsCleared, ClearAnswered, Mark}
use Rattle.bus_rules.proofs.FrameLaws.{IsFrame}
use Rattle.bus_rules.proofs.RequestLaws.{mark_small, clear_exactly, read_cleared}
use Rattle.bus_rules.proofs.Cases.{accepted, served_type, act_command, act_burn, served_case, refused_case}
use Rattle.bus_rules.proofs.SameReplies.{Alike, alike_itself, refused_same, device_same, request_reply, query_reply}

-- ── Reserved bits cleared ──────────────────────────────────────────────────────────────────────────────────────────

-- in the request bytes of a frame from byte i on
module _ (f : Frame) (w : IsFrame f) (i : ℕ) (l : i < 6) where
  abbrev g : Frame
  g = cleared_at f i

  abbrev bytes : List ℕ
  bytes = cleared (byte_of f i) (byte_of f (1 + i)) (byte_of f (2 + i))

  three : length bytes ≡ 3
  unfolding cleared
  three = refl

  fits : i + length bytes ≤ length f.bytes
  fits = omega (arith, three, w.eight)

  byte_in : (k : ℕ) → k < 3 → byte_of g (k + i) ≡ get_or bytes k 0
  unfolding byte_of cleared_at
  byte_in k h =
      let e : k + i ≡ i + k = omega arith in
      ap (byte_of g) e ∙ sets_in f.bytes i bytes fits k (omega (arith, three))

  byte_before : (k : ℕ) → k < i → byte_of g k ≡ byte_of f k
  unfolding byte_of cleared_at
  byte_before k h = sets_outside f.bytes i bytes fits k (inl h)

  three_bytes : bytes ≡ byte_of g i ∷ byte_of g (1 + i) ∷ byte_of g (2 + i) ∷ []
  unfolding cleared
  three_bytes =
      let e : byte_of g i ≡ get_or bytes 0 0 = rw zero-add at (byte_in 0 (omega arith)) in
      rw (e, byte_in 1 (omega arith), byte_in 2 (omega arith))

  read_same : read_at g i ≡ record { request = request_at f i; clear = 1 }
  unfolding read_at request_at read_request_of
  read_same = read_cleared (byte_of f i) (byte_of f (1 + i)) (byte_of f (2 + i)) (w.bytes (1 + i) (omega arith)) (w.bytes (2 + i) (omega arith))
      _ _ _ three_bytes

  is_clear_lem : Clear g i
  unfolding read_at read_request_of
  is_clear_lem = (clear_exactly _ _).0 (ap (λ (r : RequestRead). r.clear) read_same)

  request_same : (k : ℕ) → i ≡ k → request_at g k ≡ request_at f k
  unfolding request_at
  request_same k e =
      subst (λ (j : ℕ). request_at g j ≡ request_at f j) e (ap (λ (q : RequestRead). q.request) read_same)

  -- a REQ's request bytes start at byte 0, a query's at byte 1
  alike_cleared : (id_kind f.id ≡ req → i ≡ 0) → (id_kind f.id ≡ xtnd → i ≡ 1) → Alike f g
  unfolding cleared_at
  alike_cleared r x = record {
    id = refl;
    len = refl;
    request = λ k h. request_same 0 (r k);
    first = λ k h. byte_before 0 (omega (arith, x k));
    query = λ k h. request_same 1 (x k);
  }

module _ (d : Device) (f : Frame) (w : IsFrame f) where
  -- of a frame that is neither CMD nor BURN, where frames that are read alike get the same reply but for the mark
  as_cleared : (i : ℕ) → i < 6 → Alike f (cleared_at f i) → id_kind f.id ≢ cmd → id_kind f.id ≢ burn
      → (serve_number d f ≡ 0 → (g : Frame) → Alike f g → serve_of d g ≡ answer_with (read_at g i).clear (serve_of d f).frame)
      → AsCleared d f i (serve_of d f) (device_after d f)
  unfolding answer_with
  as_cleared i l a k b r = record {
    is_clear = is_clear_lem f w i l;
    number = (same (serve_number d f) refl).0;
    frames = (same (serve_number d f) refl).1;
    frame = (same (serve_number d f) refl).2;
    device = device_same d f (cleared_at f i) a k b;
  }
    where
      g : Frame
      g = cleared_at f i

      same : (n : ℕ) → serve_number d f ≡ n
          → ((serve_of d g).number ≡ (serve_of d f).number) × ((serve_of d g).frames ≡ (serve_of d f).frames) × ((serve_of d g).frame ≡ (serve_of d f).frame)
      same zero z =
          let x = r z g a in
          let y = r z f (alike_itself f) in (
            ap (λ (s : Served). s.number) x ∙ sym (ap (λ (s : Served). s.number) y),
            ap (λ (s : Served). s.frames) x ∙ sym (ap (λ (s : Served). s.frames) y),
            ap (λ (s : Served). s.frame) x,
          )
      same (suc n) z =
          let x = (refused_same d f g a n z).0 in
          (ap (λ (s : Served). s.number) x, ap (λ (s : Served). s.frames) x, ap (λ (s : Served). s.frame) x)

  pub request_cleared_lem : id_kind f.id ≡ req → AsCleared d f 0 (serve_of d f) (device_after d f)
  request_cleared_lem k =
      as_cleared 0 (omega arith) (alike_cleared f w 0 (omega arith) (λ e. refl) (λ e. absurd (omega arith))) (λ e. omega arith) (λ e. omega arith)
      (λ z g a. request_reply d f g a z k)

  pub query_cleared_lem : id_kind f.id ≡ xtnd → AsCleared d f 1 (serve_of d f) (device_after d f)
  query_cleared_lem k =
      as_cleared 1 (omega arith) (alike_cleared f w 1 (omega arith) (λ e. absurd (omega arith)) (λ e. refl)) (λ e. omega arith) (λ e. omega arith)
      (λ z g a. query_reply d f g a z k)

-- ── The mark ───────────────────────────────────────────────────────────────────────────────────────────────────────

module _ (d : Device) (f : Frame) where
  -- of an answer with mark 0
  unmarked : (serve_of d f).clear ≡ 0 → ¬ ClearAnswered f (serve_of d f) → Mark f (serve_of d f)
  unmarked e never = record { small = omega (arith, e); exactly = (λ c. absurd (omega (arith, c, e)), λ h. absurd (never h)) }

  -- of a frame that is neither a REQ nor XTND
  other : {s : Served} → serve_of d f ≡ s → s.clear ≡ 0 → id_kind f.id ≢ req → id_kind f.id ≢ xtnd → Mark f (serve_of d f)
  other e n r x = unmarked (ap (λ (s : Served). s.clear) e ∙ n) (λ c. ⊎_elim (λ y. r y.0) (λ y. x y.0) c.1)

  -- of an answer to a request whose bytes start at byte i
  marked : (i : ℕ) (g : Frame) → serve_of d f ≡ answer_with (read_at f i).clear g
      → (Clear f i → ClearAnswered f (serve_of d f)) → (ClearAnswered f (serve_of d f) → Clear f i) → Mark f (serve_of d f)
  unfolding answer_with read_at read_request_of
  marked i g e to from =
      let c = ap (λ (s : Served). s.clear) e in
      let x = clear_exactly (byte_of f i) (byte_of f (2 + i)) in
      record { small = rw c (mark_small _ _); exactly = (λ h. to (x.0 (sym c ∙ h)), λ h. c ∙ x.1 (from h)) }

  -- by type, where the frame is not refused
  served_mark : serve_number d f ≡ 0 → Mark f (serve_of d f)
  unfolding no_answer answer_with acknowledgement
  served_mark z = served_type d f (accepted d f z)
      (λ k. other ((served_case d f z).0 ∙ (act_command d f k).0) refl (λ y. omega arith) (λ y. omega arith))
      (λ k. let r = request_reply d f f (alike_itself f) z k in
      marked 0 _ r (λ c. (ap (λ (s : Served). s.number) r, inl (k, c)))
      (λ c. ⊎_elim (λ y. y.1) (λ y. absurd (omega (arith, k, y.0))) c.1))
      (λ k. other ((served_case d f z).0 ∙ (act_burn d f k).0) refl (λ y. omega arith) (λ y. omega arith))
      (λ k. let r = query_reply d f f (alike_itself f) z k in
      marked 1 _ r (λ c. (ap (λ (s : Served). s.number) r, inr (k, c)))
      (λ c. ⊎_elim (λ y. absurd (omega (arith, k, y.0))) (λ y. y.1) c.1))

  pub mark : Mark f (serve_of d f)
  unfolding no_answer
  mark = go (serve_number d f) refl
    where
      go : (n : ℕ) → serve_number d f ≡ n → Mark f (serve_of d f)
      go zero z = served_mark z
      go (suc n) z =
          let r = (refused_case d f (suc n) z (λ e. omega arith)).0 in
          unmarked (ap (λ (s : Served). s.clear) r) (λ c. omega (arith, c.0, ap (λ (s : Served). s.number) r))
