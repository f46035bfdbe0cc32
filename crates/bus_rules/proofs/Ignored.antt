-- Input bytes past a frame's length are ignored.
use mathlib.Core.Path.{◌≡◌, refl, sym, ◌∙◌, ap}
use mathlib.Core.Logic.{◌≢◌}
use mathlib.Core.List.{List}
use Prim.Native.Nat.{ℕ, zero, suc, ◌+◌, ◌<◌}
use native.Mathlib.Omega.{arith}
use lib.ListN.{get_or}
use Rattle.bus_rules.specs.Ident.{id_kind}
use Rattle.bus_rules.specs.Frames.{Frame, content}
use Rattle.bus_rules.specs.Request.{RequestRead}
use Rattle.bus_rules.specs.Device.{Device}
use Rattle.bus_rules.specs.Holder.{serve_number, byte_of, read_at, request_at, place_of, storing, acting, answer_with, serve_of, device_after}
use Rattle.bus_rules.proofs.FrameLaws.{content_at}
use Rattle.bus_rules.proofs.Cases.{Accepted, accepted, served_type, request_length, query_length}
use Rattle.bus_rules.proofs.Cases.{act_command, served_case}
use Rattle.bus_rules.proofs.SameReplies.{Alike, alike_itself, number_same, refused_same, device_same, burn_same, request_reply, query_reply}

-- ── Two frames that agree up to their length ───────────────────────────────────────────────────────────────────────

module _ (d : Device) (f g : Frame) (same_id : g.id ≡ f.id) (same_len : g.len ≡ f.len) (same : content g ≡ content f) where
  byte_same : (i : ℕ) → i < f.len → byte_of g i ≡ byte_of f i
  unfolding byte_of
  byte_same i l = sym (content_at g i (omega arith)) ∙ ap (λ (x : List ℕ). get_or x i 0) same ∙ content_at f i l

  read_same : (i : ℕ) → 2 + i < f.len → read_at g i ≡ read_at f i
  unfolding read_at
  read_same i l = rw (byte_same i (omega arith), byte_same (1 + i) (omega arith), byte_same (2 + i) l)

  request_same : (i : ℕ) → 2 + i < f.len → request_at g i ≡ request_at f i
  unfolding request_at
  request_same i l = ap (λ (q : RequestRead). q.request) (read_same i l)

  some_length : (n : ℕ) → n ≢ 0 → 0 < n
  some_length zero k = absurd (k refl)
  some_length (suc n) k = omega arith

  alike : Alike f g
  alike = record {
    id = same_id;
    len = same_len;
    request = λ k l. request_same 0 (omega arith);
    first = λ k l. byte_same 0 (some_length f.len l);
    query = λ k l. request_same 1 (omega arith);
  }

  -- stored in a device with the frame's table current
  store_same : storing (acting d g) g ≡ storing (acting d f) f
  unfolding storing place_of
  store_same = rw (same, same_id)

  same_mark : (i : ℕ) → 2 + i < f.len → answer_with (read_at g i).clear (serve_of d f).frame ≡ answer_with (read_at f i).clear (serve_of d f).frame
  same_mark i l = ap (λ (q : RequestRead). answer_with q.clear (serve_of d f).frame) (read_same i l)

  -- frames that are not refused do the same
  served_same : serve_number d f ≡ 0 → (serve_of d g ≡ serve_of d f) × (device_after d g ≡ device_after d f)
  served_same z = served_type d f ok
      (λ c. let x = served_case d g (number_same d f g alike ∙ z) in
      let y = served_case d f z in
      let u = act_command d g (ap id_kind same_id ∙ c) in
      let v = act_command d f c in
      (x.0 ∙ u.0 ∙ sym (y.0 ∙ v.0), x.1 ∙ u.1 ∙ store_same ∙ sym (y.1 ∙ v.1)))
      (λ c. let l = request_length d f ok c in
      let m = same_mark 0 (omega arith) in
      (request_reply d f g alike z c ∙ m ∙ sym (request_reply d f f (alike_itself f) z c), device_same d f g alike (λ y. omega arith) (λ y. omega arith)))
      (burn_same d f g alike z)
      (λ c. let l = query_length d f ok c in
      let m = same_mark 1 (omega arith) in
      (query_reply d f g alike z c ∙ m ∙ sym (query_reply d f f (alike_itself f) z c), device_same d f g alike (λ y. omega arith) (λ y. omega arith)))
    where
      ok : Accepted d f
      ok = accepted d f z

  pub ignored : (serve_of d g ≡ serve_of d f) × (device_after d g ≡ device_after d f)
  ignored = go (serve_number d f) refl
    where
      go : (n : ℕ) → serve_number d f ≡ n → (serve_of d g ≡ serve_of d f) × (device_after d g ≡ device_after d f)
      go zero e = served_same e
      go (suc n) e = refused_same d f g alike n e
