-- Demand 2 of the table holder, proved.
use mathlib.Core.Path.{◌≡◌, refl, sym, ◌∙◌, ap, subst}
use mathlib.Core.Logic.{◌⊎◌, inl, inr, ◌≢◌}
use mathlib.Core.List.{List, [], ◌∷◌}
use Prim.Native.Nat.{ℕ, ◌+◌, ◌/◌, ◌%◌, ◌≤◌, ◌<◌}
use native.Mathlib.Omega.{arith}
use lib.ListN.{length, get_or, take, drop}
use lib.Seq.{length-sets, get_or-take, get_or-drop, length-take-le}
use Rattle.wire.proofs.Puts.{sets_in, sets_outside}
use Rattle.bus_rules.specs.Ident.{id_from, id_kind, id_offset}
use Rattle.bus_rules.specs.Frames.{Frame, cmd, req, rsp, burn, xtnd, padded, content, frame_with}
use Rattle.bus_rules.specs.Request.{Request, RequestRead, request_of, read_request_of}
use Rattle.bus_rules.specs.Device.{Device, own_of, range_of, start_of, size_of, with_current}
use Rattle.bus_rules.specs.Holder.{Served, serve_number, byte_of, read_at, request_at, table_of, size_at, no_answer, answer_with, reply_to, place_of, protocol}
use Rattle.bus_rules.specs.Holder.{acknowledgement, acting, storing, burning, serve_of, device_after}
use Rattle.bus_rules.specs.Demand2.{CommandServed, Replied, RequestServed, Acknowledged, BurnServed, QueryServed, ServeNumber, Demand2}
use Rattle.bus_rules.proofs.IdentLaws.{unpack_id, from_small, table_small}
use Rattle.bus_rules.proofs.FrameLaws.{IsFrame, padded_length, padded_in, padded_after, content_length, content_at, head_short, part_length}
use Rattle.bus_rules.proofs.Cases.{Accepted, accepted, accepted_acting, command_fits, request_fits, query_fits}
use Rattle.bus_rules.proofs.Cases.{act_command, act_request, act_burn, act_query, served_case, refused_case, same_flash_lem, number_is}
use Rattle.bus_rules.proofs.ServeNumber.{serve_numbers}
use Rattle.bus_rules.proofs.Directories.{table_apart}
use Rattle.bus_rules.proofs.CopiedTables.{table_copied, kept_by_all}
use Rattle.bus_rules.proofs.Families.{current_after, sound_after, reloaded, kept}
use Rattle.bus_rules.proofs.Ignored.{ignored}
use Rattle.bus_rules.proofs.ReservedBits.{mark, request_cleared_lem, query_cleared_lem}

-- ── An answer frame ────────────────────────────────────────────────────────────────────────────────────────────────

module _ (d : Device) (f : Frame) (r : RequestRead) (bs : List ℕ) (own : own_of d ≤ 15) (table : r.request.table ≤ 31)
    (offset : r.request.offset ≤ 2047) (few : r.request.count ≤ 8) (len : length bs ≡ r.request.count) where
  short : length bs ≤ 8
  short = omega arith

  pub replied : Replied d f r.request (reply_to (own_of d) (id_from f.id) r bs)
  unfolding reply_to answer_with frame_with
  replied =
      record {
        done = refl;
        one = refl;
        ident = unpack_id (record { offset = r.request.offset; kind = rsp; from = own_of d; to = id_from f.id; table = r.request.table })
            (record { offset = omega arith; kind = omega arith; from = omega arith; to = omega (arith, from_small f.id); table = omega arith });
        len = len;
        eight = padded_length bs short;
        zeros = λ i l. padded_after bs short i (omega arith);
      }

  pub reply_bytes : (i : ℕ) → i < r.request.count → get_or (reply_to (own_of d) (id_from f.id) r bs).frame.bytes i 0 ≡ get_or bs i 0
  unfolding reply_to answer_with frame_with
  reply_bytes i l = padded_in bs short i (omega arith)

  pub reply_padded : (reply_to (own_of d) (id_from f.id) r bs).frame.bytes ≡ padded bs
  unfolding reply_to answer_with frame_with
  reply_padded = refl

-- and an acknowledgement
acknowledged : (d : Device) (f : Frame) → own_of d ≤ 15 → Acknowledged d f (acknowledgement (own_of d) (id_from f.id) (table_of f))
unfolding acknowledgement answer_with frame_with padded
acknowledged d f own =
    record {
      done = refl;
      one = refl;
      ident = unpack_id (record { offset = 0; kind = xtnd; from = own_of d; to = id_from f.id; table = table_of f })
          (record {
            offset = omega arith;
            kind = omega arith;
            from = omega arith;
            to = omega (arith, from_small f.id);
            table = omega (arith, table_small f.id);
          });
      len = refl;
      bytes = refl;
    }

-- ── Frames that are not refused ────────────────────────────────────────────────────────────────────────────────────

-- a request that was read from a frame's bytes
request_small : (f : Frame) → IsFrame f → (i : ℕ) → i < 6 → ((request_at f i).table ≤ 31) × ((request_at f i).offset ≤ 2047)
unfolding request_at read_at read_request_of request_of
request_small f w i l =
    let b = w.bytes (1 + i) (omega arith) in
    let c = w.bytes (2 + i) (omega arith) in
    (omega arith, omega arith)

-- on the device that it acts on; s is the answer, and after the device after it
module _ (d : Device) (f : Frame) (w : IsFrame f) (ok : Accepted d f) (s : Served) (after : Device) where
  apart_place : (k i : ℕ) → i < size_of d.directory k → k ≢ table_of f → id_offset f.id + f.len ≤ size_at d f
      → (start_of d.directory k + i < place_of d f) ⊎ (place_of d f + f.len ≤ start_of d.directory k + i)
  unfolding place_of
  apart_place k i h n t = table_apart d.directory k (table_of f) i (id_offset f.id) f.len h t n

  command_served : id_kind f.id ≡ cmd → s ≡ no_answer 0 → after ≡ storing d f → CommandServed d f s after
  unfolding byte_of storing
  command_served k a e =
      let r = command_fits d f ok k in
      let l = content_length f w.eight (head_short (own_of d) f ok.head) in
      let m = d.memory in
      let fit : place_of d f + length (content f) ≤ length m = rw l r.1 in
      record {
        answer = a;
        in_table = r.0;
        in_memory = r.1;
        same_tables = rw e;
        same_length = rw e (length-sets m (place_of d f) (content f));
        addressed = λ i lt. rw e (sets_in m (place_of d f) (content f) fit i (omega (arith, l)) ∙ content_at f i lt);
        others = λ j o. rw e (sets_outside m (place_of d f) (content f) fit j (rw l o));
        other_tables = λ k i lt h n. rw e (sets_outside m (place_of d f) (content f) fit _ (rw l (apart_place k i h n r.0)));
      }

  range_length : (n : ℕ) → place_of d f + n ≤ length d.memory → length (range_of d (table_of f) (id_offset f.id) n) ≡ n
  unfolding range_of place_of
  range_length n h = part_length d.memory (place_of d f) n h

  range_byte : (n i : ℕ) → i < n → get_or (range_of d (table_of f) (id_offset f.id) n) i 0 ≡ get_or d.memory (place_of d f + i) 0
  unfolding range_of place_of
  range_byte n i l = get_or-take n (drop (place_of d f) d.memory) i 0 l ∙ get_or-drop (place_of d f) d.memory i 0

  request_served : id_kind f.id ≡ req
      → s ≡ reply_to (own_of d) (id_from f.id) (read_at f 0) (range_of d (table_of f) (id_offset f.id) (request_at f 0).count)
      → after ≡ d → RequestServed d f s after
  unfolding request_at
  request_served k e g =
      let r = request_fits d f ok k in
      let q = request_at f 0 in
      let bs = range_of d (table_of f) (id_offset f.id) q.count in
      let l = range_length q.count r.2 in
      let t = request_small f w 0 (omega arith) in
      record {
        unchanged = g;
        reply = rw e (replied d f (read_at f 0) bs ok.directory.own t.0 t.1 r.0 l);
        in_table = r.1;
        in_memory = r.2;
        asked = λ i lt. rw e (reply_bytes d f (read_at f 0) bs ok.directory.own t.0 t.1 r.0 l i lt
            ∙ range_byte q.count i lt);
      }

  burn_served : s ≡ acknowledgement (own_of d) (id_from f.id) (table_of f) → after ≡ burning d f → BurnServed d f s after
  unfolding burning
  burn_served a e =
      let small = table_small f.id in
      let copied = table_copied d.directory (table_of f) d.memory d.flash (omega arith) ok.memory ok.flash in
      record {
        reply = rw a (acknowledged d f ok.directory.own);
        same_tables = rw e;
        same_memory = rw e;
        burnt = rw e copied;
        lasts = λ gs n i l. kept_by_all gs after d.directory (table_of f) i (rw e) (omega arith) l n ∙ rw e (copied.equal i l);
      }

  protocol_length : length (protocol d.directory) ≡ 5
  unfolding protocol
  protocol_length = refl

  few_asked : (n : ℕ) → (n ≡ 1) ⊎ (n ≡ 5) → n ≤ 5
  few_asked n (inl e) = omega arith
  few_asked n (inr e) = omega arith

  one_byte : padded (take 1 (protocol d.directory)) ≡ 2 ∷ 0 ∷ 0 ∷ 0 ∷ 0 ∷ 0 ∷ 0 ∷ 0 ∷ []
  unfolding padded protocol
  one_byte = refl

  -- a factor is 16 bits wide
  five_bytes : d.directory.table_blocking < 65536 → d.directory.write_blocking < 65536 → padded (take 5 (protocol d.directory))
      ≡ 2 ∷ d.directory.table_blocking / 256 ∷ d.directory.table_blocking % 256
      ∷ d.directory.write_blocking / 256 ∷ d.directory.write_blocking % 256 ∷ 0 ∷ 0 ∷ 0 ∷ []
  unfolding padded protocol
  five_bytes t w =
      let e : d.directory.table_blocking / 256 % 256 ≡ d.directory.table_blocking / 256 = omega arith in
      let g : d.directory.write_blocking / 256 % 256 ≡ d.directory.write_blocking / 256 = omega arith in
      rw (e, g)

  query_served : d.directory.table_blocking < 65536 → d.directory.write_blocking < 65536 → id_kind f.id ≡ xtnd
      → s ≡ reply_to (own_of d) (id_from f.id) (read_at f 1) (take (request_at f 1).count (protocol d.directory)) → after ≡ d → QueryServed d f s after
  unfolding request_at
  query_served tb wb k e g =
      let q : Request = request_at f 1 in
      let bs = take q.count (protocol d.directory) in
      let o = query_fits d f ok k in
      let n : q.count ≤ 5 = few_asked q.count o in
      let l : length bs ≡ q.count = length-take-le q.count (protocol d.directory) (omega (arith, protocol_length)) in
      let t = request_small f w 1 (omega arith) in
      record {
        unchanged = g;
        reply = rw e (replied d f (read_at f 1) bs ok.directory.own t.0 t.1 (omega arith) l);
        short = λ c. rw (e, reply_padded d f (read_at f 1) bs ok.directory.own t.0 t.1 (omega arith) l, c) one_byte;
        long = λ c. rw (e, reply_padded d f (read_at f 1) bs ok.directory.own t.0 t.1 (omega arith) l, c) (five_bytes tb wb);
        no_other = o;
      }

-- ── All of it ──────────────────────────────────────────────────────────────────────────────────────────────────────

module _ (d : Device) (f : Frame) (w : IsFrame f) where
  refused : (n : ℕ) → serve_number d f ≡ n → n ≢ 0 → ((serve_of d f).frames ≡ 0) × (serve_of d f ≡ no_answer n) × (device_after d f ≡ d)
  unfolding no_answer
  refused n h k = let r = refused_case d f n h k in (ap (λ (s : Served). s.frames) r.0, r.0, r.1)

  -- a served frame acts on the device with its table current, a query on the device itself
  module _ (z : serve_number d f ≡ 0) where
    on_acting : Accepted (acting d f) f
    on_acting = accepted_acting d f (accepted d f z)

    command : id_kind f.id ≡ cmd → CommandServed (acting d f) f (serve_of d f) (device_after d f)
    command k =
        let s = served_case d f z in
        let a = act_command d f k in
        command_served (acting d f) f w on_acting (serve_of d f) (device_after d f) k (s.0 ∙ a.0) (s.1 ∙ a.1)

    request : id_kind f.id ≡ req → RequestServed (acting d f) f (serve_of d f) (device_after d f)
    unfolding with_current
    request k =
        let s = served_case d f z in
        let a = act_request d f k in
        request_served (acting d f) f w on_acting (serve_of d f) (device_after d f) k (s.0 ∙ a.0) (s.1 ∙ a.1)

    burning_served : id_kind f.id ≡ burn → BurnServed (acting d f) f (serve_of d f) (device_after d f)
    unfolding with_current
    burning_served k =
        let s = served_case d f z in
        let a = act_burn d f k in
        burn_served (acting d f) f w on_acting (serve_of d f) (device_after d f) (s.0 ∙ a.0) (s.1 ∙ a.1)

    query : d.directory.table_blocking < 65536 → d.directory.write_blocking < 65536 → id_kind f.id ≡ xtnd
        → QueryServed d f (serve_of d f) (device_after d f)
    query tb wb k =
        let s = served_case d f z in
        let a = act_query d f k in
        query_served d f w (accepted d f z) (serve_of d f) (device_after d f) tb wb k (s.0 ∙ a.0) (s.1 ∙ a.1)

  pub demand2 : (s : Served) (after : Device) → s ≡ serve_of d f → after ≡ device_after d f
      → d.directory.table_blocking < 65536 → d.directory.write_blocking < 65536 → Demand2 d f s after
  demand2 s after e g tb wb =
      rw (e, g)
      (record {
        number = subst (ServeNumber d f) (sym (number_is d f)) (serve_numbers d f);
        refused = refused (serve_of d f).number (sym (number_is d f));
        command = λ z. command (sym (number_is d f) ∙ z);
        request = λ z. request (sym (number_is d f) ∙ z);
        burning = λ z. burning_served (sym (number_is d f) ∙ z);
        query = λ z. query (sym (number_is d f) ∙ z) tb wb;
        current = λ t. current_after d f (sym (number_is d f) ∙ t.0) t.1;
        sound_state = λ z. sound_after d f (sym (number_is d f) ∙ z);
        reloaded = λ t older n. let z = sym (number_is d f) ∙ t.0 in reloaded d f z t.1 (command z) older n (request z);
        kept = λ t. let z = sym (number_is d f) ∙ t.0 in λ h. kept d f z t.1 (command z) h (request z);
        same_flash = same_flash_lem d f;
        mark = mark d f;
        request_cleared = request_cleared_lem d f w;
        query_cleared = query_cleared_lem d f w;
        ignored = λ h i l b. ignored d f h i l b;
      })
