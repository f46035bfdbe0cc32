-- Two frames from which a holder reads the same: the same number, and the same reply but for the mark.
use mathlib.Core.Path.{◌≡◌, refl, sym, ◌∙◌, ap, ap₂}
use mathlib.Core.Logic.{◌≢◌}
use mathlib.Core.Bool.{Bool, true, false, not}
use mathlib.Core.List.{List}
use Prim.Native.Nat.{ℕ, zero, suc, ◌+◌}
use native.Mathlib.Omega.{arith}
use lib.Dec.{eqb, ltb}
use lib.ListN.{take}
use borrow.Author.Tests.{eqb-true, eqb-false}
use Rattle.wire.specs.Order.{◌if◌else◌}
use Rattle.bus_rules.specs.Ident.{id_table, id_from, id_kind, id_offset}
use Rattle.bus_rules.specs.Frames.{Frame, cmd, req, burn, xtnd, head_number}
use Rattle.bus_rules.specs.Request.{Request, RequestRead}
use Rattle.bus_rules.specs.Device.{Device, own_of, range_of, size_of, right_of, with_current}
use Rattle.bus_rules.specs.Holder.{command_number, request_number, burn_number, query_number, kind_number, serve_number, byte_of, read_at, request_at}
use Rattle.bus_rules.specs.Holder.{size_at, right_at, Served, answer_with, reply_to, acknowledgement, protocol, act_of, acting, burning, serve_of, device_after}
use Rattle.bus_rules.proofs.Cases.{accepted, by_type, command_case, request_case, burn_case, query_case, other_case}
use Rattle.bus_rules.proofs.Cases.{request_length, query_length, act_request, act_query, act_burn, served_case, refused_case, unchanged}

-- of one identifier and length: of a REQ the request is the same, of XTND the first byte and the request after it, each where the length
-- lets it be read
pub record Alike (f g : Frame) : Type 0 where
  pub id : g.id ≡ f.id
  pub len : g.len ≡ f.len
  pub request : id_kind f.id ≡ req → f.len ≡ 3 → request_at g 0 ≡ request_at f 0
  pub first : id_kind f.id ≡ xtnd → f.len ≢ 0 → byte_of g 0 ≡ byte_of f 0
  pub query : id_kind f.id ≡ xtnd → f.len ≡ 4 → request_at g 1 ≡ request_at f 1

pub alike_itself : (f : Frame) → Alike f f
alike_itself f = record { id = refl; len = refl; request = λ k l. refl; first = λ k l. refl; query = λ k l. refl }

-- ── Where the length is not the one asked for, the bytes do not count ─────────────────────────────────────────────

request_by_length : (len s r o a b : ℕ) → (len ≡ 3 → a ≡ b) → request_number len s r o a ≡ request_number len s r o b
unfolding request_number ◌if◌else◌
request_by_length len s r o a b h = go (eqb len 3) refl
  where
    go : (t : Bool) → eqb len 3 ≡ t
        → (6 if not (eqb len 3) else 7 if eqb s 0 else 7 if eqb r 0 else 9 if eqb a 0 else 9 if ltb 8 a else 8 if ltb s (o + a) else 0)
        ≡ (6 if not (eqb len 3) else 7 if eqb s 0 else 7 if eqb r 0 else 9 if eqb b 0 else 9 if ltb 8 b else 8 if ltb s (o + b) else 0)
    go true e = rw (h (eqb-true len 3 e))
    go false e = rw e

query_by_length : (len x y a b : ℕ) → (len ≢ 0 → x ≡ y) → (len ≡ 4 → a ≡ b) → query_number len x a ≡ query_number len y b
unfolding query_number ◌if◌else◌
query_by_length len x y a b f h = go (eqb len 0) (eqb len 4) refl refl
  where
    go : (s t : Bool) → eqb len 0 ≡ s → eqb len 4 ≡ t
        → (6 if eqb len 0 else 5 if not (eqb x 0x80) else 6 if not (eqb len 4) else 0 if eqb a 1 else 0 if eqb a 5 else 9)
        ≡ (6 if eqb len 0 else 5 if not (eqb y 0x80) else 6 if not (eqb len 4) else 0 if eqb b 1 else 0 if eqb b 5 else 9)
    go true t e g = rw e
    go false true e g = rw (f (eqb-false len 0 e), h (eqb-true len 4 g))
    go false false e g = rw (f (eqb-false len 0 e), g)

-- ── Numbers ────────────────────────────────────────────────────────────────────────────────────────────────────────

module _ (d : Device) (f g : Frame) (a : Alike f g) where
  request_number_same : id_kind f.id ≡ req
      → request_number g.len (size_at d g) (right_at d g) (id_offset g.id) (request_at g 0).count
      ≡ request_number f.len (size_at d f) (right_at d f) (id_offset f.id) (request_at f 0).count
  request_number_same k =
      ap₂ (λ (i l : ℕ). request_number l (size_of d.directory (id_table i)) (right_of d.directory (id_table i)) (id_offset i)
      (request_at g 0).count) a.id a.len
      ∙ request_by_length f.len (size_at d f) (right_at d f) (id_offset f.id) (request_at g 0).count (request_at f 0).count
      (λ l. ap (λ (q : Request). q.count) (a.request k l))

  query_number_same : id_kind f.id ≡ xtnd
      → query_number g.len (byte_of g 0) (request_at g 1).count ≡ query_number f.len (byte_of f 0) (request_at f 1).count
  query_number_same k =
      ap (λ (l : ℕ). query_number l (byte_of g 0) (request_at g 1).count) a.len
      ∙ query_by_length f.len (byte_of g 0) (byte_of f 0) (request_at g 1).count (request_at f 1).count
      (a.first k) (λ l. ap (λ (q : Request). q.count) (a.query k l))

  command_number_same : command_number g.len (size_at d g) (right_at d g) (id_offset g.id)
      ≡ command_number f.len (size_at d f) (right_at d f) (id_offset f.id)
  command_number_same =
      ap₂ (λ (i l : ℕ). command_number l (size_of d.directory (id_table i)) (right_of d.directory (id_table i)) (id_offset i)) a.id a.len

  burn_number_same : burn_number g.len (size_at d g) (right_at d g) ≡ burn_number f.len (size_at d f) (right_at d f)
  burn_number_same = ap₂ (λ (i l : ℕ). burn_number l (size_of d.directory (id_table i)) (right_of d.directory (id_table i))) a.id a.len

  kind_same : kind_number d g ≡ kind_number d f
  kind_same = by_type (id_kind f.id)
      (λ z. command_case d g (k ∙ z) ∙ command_number_same ∙ sym (command_case d f z))
      (λ z. request_case d g (k ∙ z) ∙ request_number_same z ∙ sym (request_case d f z))
      (λ z. burn_case d g (k ∙ z) ∙ burn_number_same ∙ sym (burn_case d f z))
      (λ z. query_case d g (k ∙ z) ∙ query_number_same z ∙ sym (query_case d f z))
      (λ c r b x. other_case d g (λ z. c (sym k ∙ z)) (λ z. r (sym k ∙ z)) (λ z. b (sym k ∙ z)) (λ z. x (sym k ∙ z)) ∙ sym (other_case d f c r b x))
    where
      k : id_kind g.id ≡ id_kind f.id
      k = ap id_kind a.id

  head_same : head_number (own_of d) g ≡ head_number (own_of d) f
  unfolding head_number
  head_same = rw (a.id, a.len)

  pub number_same : serve_number d g ≡ serve_number d f
  unfolding serve_number
  number_same = rw (head_same, kind_same)

  pub refused_same : (n : ℕ) → serve_number d f ≡ suc n → (serve_of d g ≡ serve_of d f) × (device_after d g ≡ device_after d f)
  refused_same n z =
      let x = refused_case d g (suc n) (number_same ∙ z) (λ e. omega arith) in
      let y = refused_case d f (suc n) z (λ e. omega arith) in
      (x.0 ∙ sym y.0, x.1 ∙ sym y.1)

  -- two that are neither CMD nor BURN leave the same device
  pub device_same : id_kind f.id ≢ cmd → id_kind f.id ≢ burn → device_after d g ≡ device_after d f
  device_same c b = go (serve_number d f) refl
    where
      k : id_kind g.id ≡ id_kind f.id
      k = ap id_kind a.id

      both_unchanged : id_kind f.id ≢ req → device_after d g ≡ device_after d f
      both_unchanged r = unchanged d g (λ e. c (sym k ∙ e)) (λ e. r (sym k ∙ e)) (λ e. b (sym k ∙ e)) ∙ sym (unchanged d f c r b)

      go : (n : ℕ) → serve_number d f ≡ n → device_after d g ≡ device_after d f
      go (suc n) z = (refused_same n z).1
      go zero z = by_type (id_kind f.id) (λ e. absurd (c e))
          (λ r. (served_case d g (number_same ∙ z)).1 ∙ (act_request d g (k ∙ r)).1
          ∙ ap (λ (i : ℕ). with_current d (id_table i)) a.id ∙ sym ((served_case d f z).1 ∙ (act_request d f r).1))
          (λ e. absurd (b e)) (λ x. both_unchanged (λ e. omega arith)) (λ u v w x. both_unchanged v)

  -- what a served BURN does follows from its identifier alone
  pub burn_same : serve_number d f ≡ 0 → id_kind f.id ≡ burn → (serve_of d g ≡ serve_of d f) × (device_after d g ≡ device_after d f)
  unfolding burning
  burn_same z k =
      let x = served_case d g (number_same ∙ z) in
      let y = served_case d f z in
      let u = act_burn d g (ap id_kind a.id ∙ k) in
      let v = act_burn d f k in
      let e : acknowledgement (own_of d) (id_from g.id) (id_table g.id) ≡ acknowledgement (own_of d) (id_from f.id) (id_table f.id) = rw a.id in
      let h : burning (acting d g) g ≡ burning (acting d f) f = rw a.id in
      (x.0 ∙ u.0 ∙ e ∙ sym (y.0 ∙ v.0), x.1 ∙ u.1 ∙ h ∙ sym (y.1 ∙ v.1))

-- ── Replies ────────────────────────────────────────────────────────────────────────────────────────────────────────

-- to one request, with the same bytes, the frame is the same
reply_frame : (own to : ℕ) (q r : RequestRead) (bs cs : List ℕ) → r.request ≡ q.request → bs ≡ cs
    → reply_to own to r bs ≡ answer_with r.clear (reply_to own to q cs).frame
unfolding reply_to answer_with
reply_frame own to q r bs cs e h = rw (e, h)

module _ (d : Device) (f g : Frame) (a : Alike f g) (z : serve_number d f ≡ 0) where
  -- of frames with the same request from byte i on: the same answer but for the mark
  same_reply : (i : ℕ) (bs cs : List ℕ) → request_at g i ≡ request_at f i → bs ≡ cs
      → act_of d g ≡ reply_to (own_of d) (id_from g.id) (read_at g i) bs → act_of d f ≡ reply_to (own_of d) (id_from f.id) (read_at f i) cs
      → serve_of d g ≡ answer_with (read_at g i).clear (serve_of d f).frame
  unfolding request_at
  same_reply i bs cs q e x y =
      let t : serve_of d f ≡ reply_to (own_of d) (id_from f.id) (read_at f i) cs = (served_case d f z).0 ∙ y in
      (served_case d g (number_same d f g a ∙ z)).0 ∙ x
      ∙ ap (λ (n : ℕ). reply_to (own_of d) (id_from n) (read_at g i) bs) a.id
      ∙ reply_frame (own_of d) (id_from f.id) (read_at f i) (read_at g i) bs cs q e
      ∙ ap (λ (s : Served). answer_with (read_at g i).clear s.frame) (sym t)

  pub request_reply : id_kind f.id ≡ req → serve_of d g ≡ answer_with (read_at g 0).clear (serve_of d f).frame
  request_reply k =
      let q = a.request k (request_length d f (accepted d f z) k) in
      same_reply 0 _ _ q (ap₂ (λ (r : Request) (n : ℕ). range_of (with_current d (id_table n)) (id_table n) (id_offset n) r.count) q a.id)
      (act_request d g (ap id_kind a.id ∙ k)).0 (act_request d f k).0

  pub query_reply : id_kind f.id ≡ xtnd → serve_of d g ≡ answer_with (read_at g 1).clear (serve_of d f).frame
  query_reply k =
      let q = a.query k (query_length d f (accepted d f z) k) in
      same_reply 1 _ _ q (ap (λ (r : Request). take r.count (protocol d.directory)) q)
      (act_query d g (ap id_kind a.id ∙ k)).0 (act_query d f k).0
