-- Laws of frames and chunk lengths.
use Prim.Native.Nat.{ℕ, ◌+◌, ◌*◌, ◌/◌, ◌≤◌, ◌<◌}
use mathlib.Core.Path.{◌≡◌, refl, sym, ◌∙◌, ap}
use mathlib.Core.Logic.{◌≢◌}
use mathlib.Core.List.{List, ◌++◌}
use mathlib.Core.Bool.{true, false}
use native.Mathlib.Omega.{arith}
use lib.ListN.{length, take, drop, get_or, replicate, length-take}
use lib.Seq.{take-take, take-append_seam}
use Rattle.bus_rules.specs.Frames.{cmd, req, padded, content, frame_with}
use Rattle.bus_rules.specs.Ident.{id_of, id_kind}
use Rattle.bus_rules.specs.Request.{request}
use Rattle.bridge_rules.specs.State.{Frame, Slot, asks, carries, checking}
use Rattle.bridge_rules.specs.Answers.{Buffers}
use Rattle.bridge_rules.specs.Turn.{carried_from, outgoing, sent_frame, read_frame, write_frame, chunk_len}
use Rattle.bus_rules.proofs.IdentLaws.{kind_of_id}
use Rattle.bridge_rules.proofs.KindTests.{asks_only}

-- a CMD is no REQ
pub kinds_apart : (o f t tb o' f' t' tb' : ℕ) → o < 2048 → f < 16 → t < 16 → tb < 32 → o' < 2048 → f' < 16 → t' < 16 → tb' < 32
    → id_of o cmd f t tb ≢ id_of o' req f' t' tb'
kinds_apart o f t tb o' f' t' tb' h a b c h' a' b' c' e =
    omega (arith, sym (kind_of_id o cmd f t tb h (omega arith) a b c) ∙ ap id_kind e ∙ kind_of_id o' req f' t' tb' h' (omega arith) a' b' c')

-- ── chunks ─────────────────────────────────────────────────────────────────────────────────────────────────────────

pub len_some : (count p : ℕ) → p < count → 1 ≤ chunk_len count p
unfolding chunk_len
len_some count p h = omega arith

pub len_eight : (count p : ℕ) → chunk_len count p ≤ 8
unfolding chunk_len
len_eight count p = omega arith

pub len_inside : (count p : ℕ) → p < count → p + chunk_len count p ≤ count
unfolding chunk_len
len_inside count p h = omega arith

pub len_small : (count c i : ℕ) → count ≤ 128 → i < chunk_len count (8 * c) → (8 * c + i < count) × (i < 8)
unfolding chunk_len
len_small count c i h l = (omega arith, omega arith)

-- ── frames ─────────────────────────────────────────────────────────────────────────────────────────────────────────

pub id_of_lem : (id : ℕ) (bs : List ℕ) → (frame_with id bs).id ≡ id
unfolding frame_with
id_of_lem id bs = refl

pub content_of : (id : ℕ) (bs : List ℕ) → length bs ≤ 8 → content (frame_with id bs) ≡ bs
unfolding content frame_with padded
content_of id bs h = take-take (length bs) 8 (bs ++ replicate 8 0) h ∙ take-append_seam bs (replicate 8 0)

pub content_short : (f : Frame) → length (content f) ≤ f.len
unfolding content
content_short f = omega (arith, length-take f.len f.bytes)

pub content_length : (f : Frame) → length f.bytes ≡ 8 → f.len ≤ 8 → length (content f) ≡ f.len
unfolding content
content_length f h l = length-take f.len f.bytes ∙ omega (arith, h)

-- the second byte of a REQ is the reply offset / 8
pub reply_byte : (id table offset count : ℕ) → get_or (frame_with id (request table offset count)).bytes 1 0 ≡ offset / 8
unfolding frame_with padded request
reply_byte id table offset count = refl

-- what a slot sends
pub read_is : (own k : ℕ) (x : Slot) (b : Buffers) → asks x.kind ≡ true
    → sent_frame own k x b ≡ frame_with (id_of (x.offset + x.progress) req own x.device x.table)
    (request 6 (128 * k + x.progress) (chunk_len x.count x.progress))
unfolding sent_frame read_frame
read_is own k x b e = rw (asks_only x.kind e)

pub write_is : (own k : ℕ) (x : Slot) (b : Buffers) → carries x.kind ≡ true
    → sent_frame own k x b ≡ frame_with (id_of (x.offset + x.progress) cmd own x.device x.table)
    (take (chunk_len x.count x.progress) (drop (128 * k + x.progress) (carried_from x.kind b)))
unfolding sent_frame write_frame outgoing
write_is own k x b e = rw e

-- from the second buffer for a checked write, from the first for a write
pub from_second : (kind : ℕ) (b : Buffers) → checking kind ≡ true → carried_from kind b ≡ b.second
unfolding carried_from
from_second kind b e = rw e

pub from_first : (kind : ℕ) (b : Buffers) → checking kind ≡ false → carried_from kind b ≡ b.first
unfolding carried_from
from_first kind b e = rw e
