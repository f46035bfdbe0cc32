-- What a device that keeps the holder's rules replies, for a layer that hears only the bus: a CMD gets no reply; a REQ's reply goes to the asked table
-- and offset, its bytes are the range in the device after it, in which the addressed table is current; a device that replies has an own number of at most 15.
use Prim.Native.Nat.{ℕ, zero, suc, ◌*◌, ◌≤◌}
use mathlib.Core.Path.{◌≡◌, refl, sym, ◌∙◌, ap}
use native.Mathlib.Omega.{arith}
use Rattle.bus_rules.specs.Ident.{id_of, id_from, id_kind, id_offset}
use Rattle.bus_rules.specs.Frames.{Frame, cmd, req, rsp, frame_with, padded}
use Rattle.bus_rules.specs.Request.{request, request_of, read_request_of}
use Rattle.bus_rules.specs.Device.{Device, own_of, range_of, currently, with_current}
use Rattle.bus_rules.specs.Holder.{Served, byte_of, read_at, request_at, table_of, serve_number, no_answer, answer_with, reply_to, act_of}
use Rattle.bus_rules.specs.Holder.{served_by, serve_of, device_after, Gives}
use Rattle.bus_rules.proofs.Cases.{accepted, act_command, act_request, served_case}

module _ (d : Device) (q g : Frame) (e : Gives d q g) where
  -- a frame that is answered is not refused
  answered_act : (serve_number d q ≡ 0) × ((act_of d q).frames ≡ 1) × ((act_of d q).frame ≡ g)
  unfolding serve_of served_by no_answer
  answered_act = go (serve_number d q) e.0 e.1
    where
      go : (n : ℕ) → (served_by n (act_of d q)).frames ≡ 1 → (served_by n (act_of d q)).frame ≡ g
          → (n ≡ 0) × ((act_of d q).frames ≡ 1) × ((act_of d q).frame ≡ g)
      go zero y z = (refl, y, z)
      go (suc n) y z = absurd (omega arith)

  pub command_unanswered : id_kind q.id ≡ cmd → ⊥
  unfolding no_answer
  command_unanswered k = omega (arith, ap (λ (s : Served). s.frames) (sym (act_command d q k).0) ∙ answered_act.1)

  pub request_answered : (after : Device) → after ≡ device_after d q → id_kind q.id ≡ req
      → g ≡ frame_with (id_of (request_at q 0).offset rsp (own_of d) (id_from q.id) (request_at q 0).table)
      (range_of after (table_of q) (id_offset q.id) (request_at q 0).count)
  unfolding reply_to answer_with request_at
  request_answered after h k =
      rw (h ∙ (served_case d q answered_act.0).1 ∙ (act_request d q k).1) (sym answered_act.2 ∙ ap (λ (s : Served). s.frame) (act_request d q k).0)

  pub answered_current : id_kind q.id ≡ req → (device_after d q).state ≡ currently d.state.family (table_of q)
  unfolding with_current
  answered_current k = ap (λ (v : Device). v.state) ((served_case d q answered_act.0).1 ∙ (act_request d q k).1)

  pub answerer_own : own_of d ≤ 15
  answerer_own = (accepted d q answered_act.0).directory.own

-- request bytes are read as they were written
pub request_read : (id p len a : ℕ) → len ≤ 8 → p ≡ 8 * a
    → ((request_at (frame_with id (request 6 p len)) 0).table ≡ 6) × ((request_at (frame_with id (request 6 p len)) 0).offset ≡ p)
    × ((request_at (frame_with id (request 6 p len)) 0).count ≡ len)
unfolding request_at read_at read_request_of request_of byte_of frame_with padded request
request_read id p len a h e = (refl, omega arith, omega arith)
