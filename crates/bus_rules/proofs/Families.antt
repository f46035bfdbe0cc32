-- The two families: the current table, and what a served CMD, REQ or BURN leaves in the memory that was lent.
use Prim.Native.Nat.{ℕ, ◌+◌, ◌≤◌, ◌<◌}
use mathlib.Core.Path.{◌≡◌, refl, sym, ◌∙◌, ap, subst}
use mathlib.Core.Logic.{◌⊎◌, inl, inr, ⊎_elim, ◌≢◌}
use mathlib.Core.List.{List}
use mathlib.Core.Bool.{Bool}
use native.Mathlib.Omega.{arith}
use native.Mathlib.Decide.{dec_lt}
use lib.Dec.{eqb}
use lib.ListN.{get_or}
use borrow.Author.Tests.{eqb-false}
use Rattle.wire.specs.Order.{◌if◌else◌}
use Rattle.wire.proofs.Orders.{if_zero}
use Rattle.bus_rules.specs.Ident.{id_kind, id_offset}
use Rattle.bus_rules.specs.Frames.{Frame, cmd, req, burn, xtnd}
use Rattle.bus_rules.specs.Device.{Device, start_of, size_of, currently, with_current}
use Rattle.bus_rules.specs.Holder.{table_of, size_at, place_of, command_number, request_number, burn_number, serve_number}
use Rattle.bus_rules.specs.Holder.{acting, storing, burning, act_after, serve_of, device_after}
use Rattle.bus_rules.specs.Demand2.{IsCurrent, Written, TableCopied, CommandServed, RequestServed, Reloaded, Kept, SoundState}
use Rattle.bus_rules.proofs.IdentLaws.{table_small}
use Rattle.bus_rules.proofs.Directories.{table_apart}
use Rattle.bus_rules.proofs.HolderStates.{reload_older, no_reload_lem, sound_currently}
use Rattle.bus_rules.proofs.Cases.{Accepted, accepted, accepted_state, command_case, request_case, burn_case, command_fits, served_type}
use Rattle.bus_rules.proofs.Cases.{act_request, act_burn, act_query, served_case, acting_reloaded, acting_kept, after_served, same_flash_lem}
use Rattle.bus_rules.proofs.CopiedTables.{table_copied, burn_copied, copied_back}

-- a number that is 6 for a length, then 7 for an empty table, is 0: the table is not empty
not_empty : (b : Bool) (size n : ℕ) → (6 if b else 7 if eqb size 0 else n) ≡ 0 → size ≢ 0
not_empty b size n h = eqb-false _ _ (if_zero 6 _ _ (if_zero 5 _ _ h).1).0

module _ (e : Device) (f : Frame) (z : serve_number e f ≡ 0) where
  ok : Accepted e f
  ok = accepted e f z

  -- the device after a served CMD, REQ or BURN, by type: the one it acts on, after it stored, as it is, or after it burnt
  after_table : (P : Device → Type 0) → (id_kind f.id ≡ cmd → P (storing (acting e f) f)) → (id_kind f.id ≡ req → P (acting e f))
      → (id_kind f.id ≡ burn → P (burning (acting e f) f)) → id_kind f.id ≢ xtnd → P (device_after e f)
  after_table P c r b n = after_served e f P c r b (λ k. absurd (n k)) (λ u v w x. absurd (served_type e f ok u v w x)) z

  -- ── The current table ────────────────────────────────────────────────────────────────────────────────────────────

  pub current_after : id_kind f.id ≢ xtnd → (device_after e f).state ≡ currently e.state.family (table_of f)
  unfolding storing burning with_current
  current_after = after_table (λ v. v.state ≡ currently e.state.family (table_of f)) (λ k. refl) (λ k. refl) (λ k. refl)

  some_table : id_kind f.id ≢ xtnd → size_at e f ≢ 0
  unfolding command_number request_number burn_number
  some_table n = served_type e f ok
      (λ k. not_empty _ _ _ (sym (command_case e f k) ∙ ok.kind))
      (λ k. not_empty _ _ _ (sym (request_case e f k) ∙ ok.kind))
      (λ k. not_empty _ _ _ (sym (burn_case e f k) ∙ ok.kind))
      (λ k. absurd (n k))

  -- a sound state becomes a sound one
  pub sound_after : SoundState e.directory (device_after e f).state
  sound_after = served_type e f ok (λ k. of_table (λ q. omega arith)) (λ k. of_table (λ q. omega arith)) (λ k. of_table (λ q. omega arith))
      (λ k. rw ((served_case e f z).1, (act_query e f k).1) (accepted_state e f z))
    where
      of_table : id_kind f.id ≢ xtnd → SoundState e.directory (device_after e f).state
      of_table n = rw (current_after n)
          (sound_currently e.directory e.state (table_of f) (accepted_state e f z) (omega (arith, table_small f.id)) (some_table n))

-- ── Working memory ─────────────────────────────────────────────────────────────────────────────────────────────────

module _ (e : Device) (f : Frame) (z : serve_number e f ≡ 0) (n : id_kind f.id ≢ xtnd)
    (command : id_kind f.id ≡ cmd → CommandServed (acting e f) f (serve_of e f) (device_after e f)) where
  -- a byte that the frame does not write is that of the device it acts on
  memory_after : (j : ℕ) → ¬ Written e f j → get_or (device_after e f).memory j 0 ≡ get_or (acting e f).memory j 0
  unfolding with_current burning place_of
  memory_after j o = served_type e f (accepted e f z) (λ k. (command k).others j (beside k (dec_lt j (place_of e f))))
      (λ k. same_byte (act_request e f k).1) (λ k. same_byte (act_burn e f k).1) (λ k. absurd (n k))
    where
      same_byte : {v : Device} → act_after e f ≡ v → get_or (device_after e f).memory j 0 ≡ get_or v.memory j 0
      same_byte h = ap (λ (v : Device). get_or v.memory j 0) ((served_case e f z).1 ∙ h)

      beside : id_kind f.id ≡ cmd → Dec (j < place_of e f) → (j < place_of e f) ⊎ (place_of e f + f.len ≤ j)
      beside k (yes p) = inl p
      beside k (no p) = go (dec_lt j (place_of e f + f.len))
        where
          go : Dec (j < place_of e f + f.len) → (j < place_of e f) ⊎ (place_of e f + f.len ≤ j)
          go (yes q) = absurd (o (k, omega arith, q))
          go (no q) = inr (omega arith)

  -- of another table it writes none
  not_written : (k i : ℕ) → i < size_of e.directory k → k ≢ table_of f → ¬ Written e f (start_of e.directory k + i)
  unfolding place_of
  not_written k i l d w =
      let fits = command_fits e f (accepted e f z) w.0 in
      ⊎_elim (λ p. omega (arith, w.1, w.2)) (λ p. omega (arith, w.1, w.2))
      (table_apart e.directory k (table_of f) i (id_offset f.id) f.len l fits.0 d)

  -- the older family, the table not current
  module _ (older : e.state.family ≡ 2) (other : ¬ IsCurrent e.state (table_of f)) where
    reload : TableCopied e.directory (table_of f) e.flash e.memory (acting e f).memory
    reload =
        let a = accepted e f z in
        rw (acting_reloaded e f (reload_older e.state (table_of f) older other))
        (table_copied e.directory (table_of f) e.flash e.memory (omega (arith, table_small f.id)) a.flash a.memory)

    flash_after : (device_after e f).flash ≡ e.flash
    flash_after = served_type e f (accepted e f z) (λ k. same_flash_lem e f (λ q. omega arith)) (λ k. same_flash_lem e f (λ q. omega arith))
        (λ k. copied_back e.directory (table_of f) e.flash e.memory (acting e f).memory (device_after e f).flash reload (burn_copied e f z k))
        (λ k. absurd (n k))

    pub reloaded : (id_kind f.id ≡ req → RequestServed (acting e f) f (serve_of e f) (device_after e f)) → Reloaded e f (serve_of e f) (device_after e f)
    unfolding with_current place_of
    reloaded request = record {
      reload = reload;
      asked = λ k i l. let inside = (request k).in_table in
          let same : start_of e.directory (table_of f) + (id_offset f.id + i) ≡ start_of e.directory (table_of f) + id_offset f.id + i = omega arith in
          (request k).asked i l
          ∙ subst (λ (j : ℕ). get_or (acting e f).memory j 0 ≡ get_or e.flash j 0) same (reload.equal (id_offset f.id + i) (omega (arith, inside)));
      others = λ i l o. memory_after _ o ∙ reload.equal i l;
      other_tables = λ k i b l d. memory_after _ (not_written k i l d) ∙ reload.other_tables k i b l d;
      same_flash = flash_after;
    }

  -- the newer family, or the table current
  pub kept : (e.state.family ≡ 3) ⊎ IsCurrent e.state (table_of f)
      → (id_kind f.id ≡ req → RequestServed (acting e f) f (serve_of e f) (device_after e f)) → Kept e f (serve_of e f) (device_after e f)
  unfolding with_current place_of
  kept h request =
      let same = acting_kept e f (no_reload_lem e.state (table_of f) h) in
      record {
        no_reload = same;
        asked = λ k i l. (request k).asked i l ∙ ap (λ (m : List ℕ). get_or m (place_of e f + i) 0) same;
        burnt = λ k. subst (λ (m : List ℕ). TableCopied e.directory (table_of f) m e.flash (device_after e f).flash) same (burn_copied e f z k);
        others = λ j o. memory_after j o ∙ ap (λ (m : List ℕ). get_or m j 0) same;
      }
