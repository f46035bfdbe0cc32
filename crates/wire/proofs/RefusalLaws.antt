-- Laws of refusals: a refusal is told by its number, and what a call hands back by its number and its value.
use Rattle.std.proofs.Common.{◌≡◌, ℕ, zero, suc, refl, sym, ap, ◌∙◌, arith, Ok, Err}
use Rattle.wire.specs.Answer.{result_of}
use Rattle.wire.specs.declared.refusal.Refusal.{Refusal}
use Rattle.wire.specs.Refusals.{code, given, refusal_of, checked}
use Rattle.wire.specs.declared.refusal.Refusal.TheVariants as R

pub refusal_code : (e : Refusal) → refusal_of (code e) ≡ e
unfolding refusal_of
refusal_code R.HighIdentifier = refl
refusal_code R.SpareBits = refl
refusal_code R.FrameLength = refl
refusal_code R.OtherDevice = refl
refusal_code R.NotServed = refl
refusal_code R.WrongLength = refl
refusal_code R.NoTable = refl
refusal_code R.PastEnd = refl
refusal_code R.Count = refl
refusal_code R.MemoryLength = refl
refusal_code R.Unsound = refl
refusal_code R.NoFreeSlot = refl
refusal_code R.NoTicketLeft = refl
refusal_code R.UnknownTicket = refl
refusal_code R.NotFinished = refl
refusal_code R.GaveUp = refl
refusal_code R.NoReader = refl
refusal_code R.Different = refl
refusal_code R.SlotsRest = refl
refusal_code R.CutShort = refl
refusal_code R.WrongName = refl
refusal_code R.Version = refl
refusal_code R.Disagree = refl
refusal_code R.FieldType = refl
refusal_code R.BlockType = refl
refusal_code R.WrongSum = refl
refusal_code R.NoRoom = refl
refusal_code R.WrongText = refl
refusal_code R.NotShown = refl

-- no refusal has the number 0: of 0 `refusal_of` gives the last, whose number is 30
pub code_ne0 : (e : Refusal) → code e ≡ 0 → ⊥
unfolding refusal_of
code_ne0 e h =
    let last : R.NotShown ≡ e = ap refusal_of (sym h) ∙ refusal_code e in
    let z : ◌≡◌ {A = ℕ} 30 0 = ap code last ∙ h in
    cc

-- a refusal with the number that a call's definition gives
pub refuses : {A : Type 0} (n : ℕ) (x : A) (e : Refusal) → code e ≡ n → Err e ≡ checked n x
unfolding checked
refuses zero x e h = absurd (code_ne0 e h)
refuses (suc n) x e h = ap (λ (r : Refusal). Err r) (sym (refusal_code e) ∙ ap refusal_of h)

-- a number that is 0
pub stands : {A : Type 0} (n : ℕ) (x y : A) → n ≡ 0 → y ≡ x → Ok y ≡ checked n x
unfolding checked
stands zero x y e h = ap (λ (r : _). Ok r) h
stands (suc n) x y e h = absurd (omega arith)

-- an answer with a value: its number is 0
pub answered : {A : Type 0} (n : ℕ) (x y : A) → checked n x ≡ Ok y → (n ≡ 0) × (x ≡ y)
unfolding checked
answered zero x y e = (refl, cc)
answered (suc n) x y e = cc

-- the same, with what the answer means: its number and its value
pub refused : {A : Type 0} (none x : A) (n : ℕ) (e : Refusal) → code e ≡ n
    → (Err e ≡ checked n x) × (given none (Err e) ≡ result_of none n x)
unfolding result_of
refused none x zero e h = absurd (code_ne0 e h)
refused none x (suc n) e h = (refuses (suc n) x e h, ap (λ (k : ℕ). (k, none)) h)

pub held : {A : Type 0} (none x : A) (n : ℕ) (y : A) → n ≡ 0 → y ≡ x
    → (Ok y ≡ checked n x) × (given none (Ok y) ≡ result_of none n x)
unfolding result_of
held none x zero y e h = (stands 0 x y e h, ap (λ (k : _). (0, k)) h)
held none x (suc n) y e h = absurd (omega arith)
