-- The holder's definitions by cases, and what an answer of 0 says.
use mathlib.Core.Path.{◌≡◌, refl, sym, ◌∙◌, ap, ap₂, subst}
use mathlib.Core.List.{List}
use mathlib.Core.Logic.{◌⊎◌, inl, inr, ◌≢◌}
use mathlib.Core.Bool.{Bool, true, false, cond}
use Prim.Native.Nat.{ℕ, zero, suc, ◌+◌, ◌≤◌}
use native.Mathlib.Omega.{arith}
use lib.Dec.{eqb}
use lib.ListN.{length, take, drop}
use lib.Seq.{length-sets}
use borrow.Author.Tests.{ltb-false, eqb-true, eqb-false, eq-eqb, ne_eqb, not-false}
use Rattle.wire.specs.Order.{◌if◌else◌}
use Rattle.wire.proofs.Orders.{if_zero, else_zero}
use Rattle.bus_rules.specs.Ident.{id_from, id_kind, id_offset}
use Rattle.bus_rules.specs.Frames.{Frame, cmd, req, burn, xtnd, head_number}
use Rattle.bus_rules.specs.Device.{Directory, HolderState, Device, device, own_of, range_of, total_of, memory_number, state_number, copy_table, reloads}
use Rattle.bus_rules.specs.Device.{start_of, size_of, with_current}
use Rattle.bus_rules.specs.Holder.{command_number, request_number, burn_number, query_number, kind_number, device_number, serve_number}
use Rattle.bus_rules.specs.Holder.{byte_of, read_at, request_at}
use Rattle.bus_rules.specs.Holder.{table_of, size_at, right_at, by_kind, no_answer, reply_to, acknowledgement, place_of, protocol, act_of, storing, burning}
use Rattle.bus_rules.specs.Holder.{Served, answer_with, acting, act_after, served_by, after_by, serve_of, device_after}
use Rattle.bus_rules.specs.Demand2.{SoundDirectory, SoundState}
use Rattle.bus_rules.proofs.IdentLaws.{table_small}
use Rattle.bus_rules.proofs.Directories.{memory_zero, table_within}
use Rattle.bus_rules.proofs.HolderStates.{sound_state_lem}

-- ── What is chosen by type ─────────────────────────────────────────────────────────────────────────────────────────

module _ {A : Type 0} (k : ℕ) (c r b x o : A) where
  by_command : k ≡ cmd → by_kind k c r b x o ≡ c
  unfolding by_kind
  by_command h = rw (eq-eqb _ _ h)

  by_request : k ≡ req → by_kind k c r b x o ≡ r
  unfolding by_kind
  by_request h = rw (ne_eqb k cmd (λ z. omega arith), eq-eqb _ _ h)

  by_burn : k ≡ burn → by_kind k c r b x o ≡ b
  unfolding by_kind
  by_burn h = rw (ne_eqb k cmd (λ z. omega arith), ne_eqb k req (λ z. omega arith), eq-eqb _ _ h)

  by_query : k ≡ xtnd → by_kind k c r b x o ≡ x
  unfolding by_kind
  by_query h = rw (ne_eqb k cmd (λ z. omega arith), ne_eqb k req (λ z. omega arith), ne_eqb k burn (λ z. omega arith), eq-eqb _ _ h)

  by_other : k ≢ cmd → k ≢ req → k ≢ burn → k ≢ xtnd → by_kind k c r b x o ≡ o
  unfolding by_kind
  by_other u v w z = rw (ne_eqb _ _ u, ne_eqb _ _ v, ne_eqb _ _ w, ne_eqb _ _ z)

-- a type is one of the four, or another
pub by_type : {P : Type 0} (k : ℕ) → (k ≡ cmd → P) → (k ≡ req → P) → (k ≡ burn → P) → (k ≡ xtnd → P) → (k ≢ cmd → k ≢ req → k ≢ burn → k ≢ xtnd → P) → P
by_type {P} k c r b x o = go (eqb k cmd) (eqb k req) (eqb k burn) (eqb k xtnd) refl refl refl refl
  where
    go : (s t u v : Bool) → eqb k cmd ≡ s → eqb k req ≡ t → eqb k burn ≡ u → eqb k xtnd ≡ v → P
    go true t u v e g h i = c (eqb-true _ _ e)
    go false true u v e g h i = r (eqb-true _ _ g)
    go false false true v e g h i = b (eqb-true _ _ h)
    go false false false true e g h i = x (eqb-true _ _ i)
    go false false false false e g h i = o (eqb-false _ _ e) (eqb-false _ _ g) (eqb-false _ _ h) (eqb-false _ _ i)

-- what one device holds, another that is the same holds
pub same_held : {a b : Device} → a ≡ b → (b.state ≡ a.state) × (b.memory ≡ a.memory) × (b.flash ≡ a.flash)
same_held h = (sym (ap (λ (v : Device). v.state) h), sym (ap (λ (v : Device). v.memory) h), sym (ap (λ (v : Device). v.flash) h))

-- ── Numbers by type ────────────────────────────────────────────────────────────────────────────────────────────────

module _ (e : Device) (f : Frame) where
  pub command_case : id_kind f.id ≡ cmd → kind_number e f ≡ command_number f.len (size_at e f) (right_at e f) (id_offset f.id)
  unfolding kind_number
  command_case h = by_command _ _ _ _ _ _ h

  pub request_case : id_kind f.id ≡ req
      → kind_number e f ≡ request_number f.len (size_at e f) (right_at e f) (id_offset f.id) (request_at f 0).count
  unfolding kind_number
  request_case h = by_request _ _ _ _ _ _ h

  pub burn_case : id_kind f.id ≡ burn → kind_number e f ≡ burn_number f.len (size_at e f) (right_at e f)
  unfolding kind_number
  burn_case h = by_burn _ _ _ _ _ _ h

  pub query_case : id_kind f.id ≡ xtnd → kind_number e f ≡ query_number f.len (byte_of f 0) (request_at f 1).count
  unfolding kind_number
  query_case h = by_query _ _ _ _ _ _ h

  pub other_case : id_kind f.id ≢ cmd → id_kind f.id ≢ req → id_kind f.id ≢ burn → id_kind f.id ≢ xtnd → kind_number e f ≡ 5
  unfolding kind_number
  other_case c r b x = by_other _ _ _ _ _ _ c r b x

-- ── Actions by type ────────────────────────────────────────────────────────────────────────────────────────────────

module _ (e : Device) (f : Frame) where
  pub act_command : id_kind f.id ≡ cmd → (act_of e f ≡ no_answer 0) × (act_after e f ≡ storing (acting e f) f)
  unfolding act_of act_after
  act_command h = (by_command _ _ _ _ _ _ h, by_command _ _ _ _ _ _ h)

  pub act_request : id_kind f.id ≡ req
      → (act_of e f ≡ reply_to (own_of e) (id_from f.id) (read_at f 0) (range_of (acting e f) (table_of f) (id_offset f.id) (request_at f 0).count))
      × (act_after e f ≡ acting e f)
  unfolding act_of act_after
  act_request h = (by_request _ _ _ _ _ _ h, by_request _ _ _ _ _ _ h)

  pub act_burn : id_kind f.id ≡ burn
      → (act_of e f ≡ acknowledgement (own_of e) (id_from f.id) (table_of f)) × (act_after e f ≡ burning (acting e f) f)
  unfolding act_of act_after
  act_burn h = (by_burn _ _ _ _ _ _ h, by_burn _ _ _ _ _ _ h)

  pub act_query : id_kind f.id ≡ xtnd
      → (act_of e f ≡ reply_to (own_of e) (id_from f.id) (read_at f 1) (take (request_at f 1).count (protocol e.directory))) × (act_after e f ≡ e)
  unfolding act_of act_after
  act_query h = (by_query _ _ _ _ _ _ h, by_query _ _ _ _ _ _ h)

  -- what a CMD, REQ or BURN acts on has its table reloaded, or its memory as it was
  pub acting_reloaded : reloads e.state (table_of f) ≡ true → (acting e f).memory ≡ copy_table e.directory (table_of f) e.flash e.memory
  unfolding with_current
  acting_reloaded h = rw h

  pub acting_kept : reloads e.state (table_of f) ≡ false → (acting e f).memory ≡ e.memory
  unfolding with_current
  acting_kept h = rw h

  act_other : id_kind f.id ≢ cmd → id_kind f.id ≢ req → id_kind f.id ≢ burn → id_kind f.id ≢ xtnd
      → (act_of e f ≡ no_answer 0) × (act_after e f ≡ e)
  unfolding act_of act_after
  act_other c r b x = (by_other _ _ _ _ _ _ c r b x, by_other _ _ _ _ _ _ c r b x)

  pub served_case : serve_number e f ≡ 0 → (serve_of e f ≡ act_of e f) × (device_after e f ≡ act_after e f)
  unfolding serve_of device_after served_by after_by
  served_case h = (rw h, rw h)

  -- every refusal is a number and no frame, and changes nothing
  pub refused_case : (n : ℕ) → serve_number e f ≡ n → n ≢ 0 → (serve_of e f ≡ no_answer n) × (device_after e f ≡ e)
  unfolding serve_of device_after served_by after_by
  refused_case zero h ne = absurd (ne refl)
  refused_case (suc n) h ne = (rw h, rw h)

  -- what holds of the device that a frame acts on, after it stored, as it is, or after it burnt, and of the device itself, holds of the device after a
  -- served frame
  pub after_served : (P : Device → Type 0) → (id_kind f.id ≡ cmd → P (storing (acting e f) f)) → (id_kind f.id ≡ req → P (acting e f))
      → (id_kind f.id ≡ burn → P (burning (acting e f) f)) → (id_kind f.id ≡ xtnd → P e)
      → (id_kind f.id ≢ cmd → id_kind f.id ≢ req → id_kind f.id ≢ burn → id_kind f.id ≢ xtnd → P e) → serve_number e f ≡ 0 → P (device_after e f)
  after_served P c r b x o z = subst P (sym (served_case z).1) (by_type (id_kind f.id) (λ k. subst P (sym (act_command k).1) (c k))
      (λ k. subst P (sym (act_request k).1) (r k)) (λ k. subst P (sym (act_burn k).1) (b k)) (λ k. subst P (sym (act_query k).1) (x k))
      (λ u v w y. subst P (sym (act_other u v w y).1) (o u v w y)))

  -- and after any
  after_any : (P : Device → Type 0) → (id_kind f.id ≡ cmd → P (storing (acting e f) f)) → (id_kind f.id ≡ req → P (acting e f))
      → (id_kind f.id ≡ burn → P (burning (acting e f) f)) → P e → P (device_after e f)
  after_any P c r b same = go (serve_number e f) refl
    where
      go : (n : ℕ) → serve_number e f ≡ n → P (device_after e f)
      go zero z = after_served P c r b (λ k. same) (λ u v w x. same) z
      go (suc n) z = subst P (sym (refused_case (suc n) z (λ q. omega arith)).1) same

  -- no frame but a CMD, a REQ or a BURN changes the device
  pub unchanged : id_kind f.id ≢ cmd → id_kind f.id ≢ req → id_kind f.id ≢ burn → device_after e f ≡ e
  unchanged c r b = after_any (λ v. v ≡ e) (λ k. absurd (c k)) (λ k. absurd (r k)) (λ k. absurd (b k)) refl

  -- no frame but a BURN changes the flash
  pub same_flash_lem : id_kind f.id ≢ burn → (device_after e f).flash ≡ e.flash
  unfolding storing with_current
  same_flash_lem b = after_any (λ v. v.flash ≡ e.flash) (λ k. refl) (λ k. refl) (λ k. absurd (b k)) refl

  -- no frame changes the directory
  pub same_directory : (device_after e f).directory ≡ e.directory
  unfolding storing burning with_current
  same_directory = after_any (λ v. v.directory ≡ e.directory) (λ k. refl) (λ k. refl) (λ k. refl) refl

  pub device_after_lem : (s : HolderState) (m p : List ℕ) → s ≡ (device_after e f).state → m ≡ (device_after e f).memory → p ≡ (device_after e f).flash
      → device e.directory s m p ≡ device_after e f
  device_after_lem s m p t h g =
      ap₂ (λ (d : Directory) (x : HolderState). device d x m p) (sym same_directory) t ∙ ap₂ (device (device_after e f).directory (device_after e f).state) h g

  -- what is done is answered 0
  act_zero : (act_of e f).number ≡ 0
  unfolding reply_to acknowledgement answer_with no_answer
  act_zero = by_type (id_kind f.id) (λ k. number (act_command k).0) (λ k. number (act_request k).0) (λ k. number (act_burn k).0)
      (λ k. number (act_query k).0) (λ c r b x. number (act_other c r b x).0)
    where
      number : {a b : Served} → a ≡ b → a.number ≡ b.number
      number h = ap (λ (s : Served). s.number) h

  -- the answer's number is the judgement's
  pub number_is : (serve_of e f).number ≡ serve_number e f
  unfolding serve_of served_by no_answer
  number_is = go (serve_number e f)
    where
      go : (n : ℕ) → (served_by n (act_of e f)).number ≡ n
      go zero = act_zero
      go (suc n) = refl

-- ── What 0 says ────────────────────────────────────────────────────────────────────────────────────────────────────

pub command_zero : (len size right offset : ℕ) → command_number len size right offset ≡ 0 → offset + len ≤ size
unfolding command_number
command_zero len size right offset h =
    let h1 = if_zero 5 _ _ h in
    let h2 = if_zero 6 _ _ h1.1 in
    let h3 = if_zero 6 _ _ h2.1 in
    let h4 = if_zero 7 _ _ h3.1 in
    ltb-false size (offset + len) h4.0

pub request_zero : (len size right offset count : ℕ) → request_number len size right offset count ≡ 0
    → (len ≡ 3) × (count ≤ 8) × (offset + count ≤ size)
unfolding request_number
request_zero len size right offset count h =
    let h1 = if_zero 5 _ _ h in
    let h2 = if_zero 6 _ _ h1.1 in
    let h3 = if_zero 6 _ _ h2.1 in
    let h4 = if_zero 8 _ _ h3.1 in
    let h5 = if_zero 8 _ _ h4.1 in
    let h6 = if_zero 7 _ _ h5.1 in
    (eqb-true len 3 (not-false _ h1.0), ltb-false 8 count h5.0, ltb-false size (offset + count) h6.0)

one_or_five : (b b' : Bool) (n : ℕ) → eqb n 1 ≡ b → eqb n 5 ≡ b' → ◌≡◌ {A = ℕ} (0 if b else 0 if b' else 9) 0 → (n ≡ 1) ⊎ (n ≡ 5)
unfolding ◌if◌else◌
one_or_five true b' n e e' h = inl (eqb-true n 1 e)
one_or_five false true n e e' h = inr (eqb-true n 5 e')
one_or_five false false n e e' h = absurd (omega arith)

pub query_zero : (len first count : ℕ) → query_number len first count ≡ 0 → (len ≡ 4) × ((count ≡ 1) ⊎ (count ≡ 5))
unfolding query_number
query_zero len first count h =
    let h1 = if_zero 5 _ _ h in
    let h2 = if_zero 4 _ _ h1.1 in
    let h3 = if_zero 5 _ _ h2.1 in
    (eqb-true len 4 (not-false _ h3.0), one_or_five (eqb count 1) (eqb count 5) count refl refl h3.1)

-- 11 and 10
device_zero : (e : Device) → device_number e ≡ 0
    → (state_number e.directory e.state ≡ 0) × (memory_number e.directory (length e.memory) (length e.flash) ≡ 0)
unfolding device_number
device_zero e h = else_zero (state_number e.directory e.state) _ h

-- a frame that is not refused
pub record Accepted (e : Device) (f : Frame) : Type 0 where
  pub directory : SoundDirectory e.directory
  pub memory : length e.memory ≡ total_of e.directory
  pub flash : length e.flash ≡ total_of e.directory
  pub head : head_number (own_of e) f ≡ 0
  pub kind : kind_number e f ≡ 0

pub accepted : (e : Device) (f : Frame) → serve_number e f ≡ 0 → Accepted e f
unfolding serve_number
accepted e f h =
    let h1 = else_zero (device_number e) _ h in
    let h2 = else_zero (head_number (own_of e) f) (kind_number e f) h1.1 in
    let h3 = memory_zero e.directory (length e.memory) (length e.flash) (device_zero e h1.0).1 in
    record { directory = h3.0; memory = h3.1; flash = h3.2; head = h2.0; kind = h2.1 }

-- and its state is sound
pub accepted_state : (e : Device) (f : Frame) → serve_number e f ≡ 0 → SoundState e.directory e.state
unfolding serve_number
accepted_state e f h = sound_state_lem e.directory e.state (device_zero e (else_zero (device_number e) _ h).0).0

-- what it acts on is as sound
pub accepted_acting : (e : Device) (f : Frame) → Accepted e f → Accepted (acting e f) f
unfolding kind_number with_current copy_table
accepted_acting e f a =
    record { directory = a.directory; memory = same (reloads e.state (table_of f)) ∙ a.memory; flash = a.flash; head = a.head; kind = a.kind }
  where
    same : (b : Bool) → length (cond b (copy_table e.directory (table_of f) e.flash e.memory) e.memory) ≡ length e.memory
    same true = length-sets e.memory (start_of e.directory (table_of f))
        (take (size_of e.directory (table_of f)) (drop (start_of e.directory (table_of f)) e.flash))
    same false = refl

module _ (e : Device) (f : Frame) (a : Accepted e f) where
  -- a range of the addressed table lies within the memory
  in_memory : (k : ℕ) → id_offset f.id + k ≤ size_at e f → place_of e f + k ≤ length e.memory
  unfolding place_of
  in_memory k h = omega (arith, table_within e.directory (table_of f) (omega (arith, table_small f.id)), a.memory)

  pub command_fits : id_kind f.id ≡ cmd
      → (id_offset f.id + f.len ≤ size_at e f) × (place_of e f + f.len ≤ length e.memory)
  command_fits k =
      let r = command_zero _ _ _ _ (sym (command_case e f k) ∙ a.kind) in
      (r, in_memory f.len r)

  pub request_fits : id_kind f.id ≡ req
      → ((request_at f 0).count ≤ 8) × (id_offset f.id + (request_at f 0).count ≤ size_at e f)
      × (place_of e f + (request_at f 0).count ≤ length e.memory)
  request_fits k =
      let r = request_zero _ _ _ _ _ (sym (request_case e f k) ∙ a.kind) in
      (r.1, r.2, in_memory (request_at f 0).count r.2)

  pub request_length : id_kind f.id ≡ req → f.len ≡ 3
  request_length k = (request_zero _ _ _ _ _ (sym (request_case e f k) ∙ a.kind)).0

  pub query_fits : id_kind f.id ≡ xtnd → ((request_at f 1).count ≡ 1) ⊎ ((request_at f 1).count ≡ 5)
  query_fits k = (query_zero _ _ _ (sym (query_case e f k) ∙ a.kind)).1

  pub query_length : id_kind f.id ≡ xtnd → f.len ≡ 4
  query_length k = (query_zero _ _ _ (sym (query_case e f k) ∙ a.kind)).0

  -- it is of one of the four types
  pub served_type : {P : Type 0} → (id_kind f.id ≡ cmd → P) → (id_kind f.id ≡ req → P) → (id_kind f.id ≡ burn → P) → (id_kind f.id ≡ xtnd → P) → P
  served_type c r b x = by_type (id_kind f.id) c r b x (λ u v w y. absurd (omega (arith, sym (other_case e f u v w y) ∙ a.kind)))
