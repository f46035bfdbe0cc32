-- Refusals and their numbers, and what a call hands back: a value where its number is 0, else a refusal.
use Rattle.std.specs.Prelude.{ℕ, zero, suc, cond, eqb, List, [], ◌∷◌, Result, Ok, Err}
use Rattle.wire.specs.declared.refusal.Refusal.{Refusal}
use Rattle.wire.specs.declared.refusal.Refusal.TheVariants as R

-- 01 "Numbers handed back", and 02: 18 (C-10) and 19 (C-19)
abbrev pub code : Refusal → ℕ
code R.HighIdentifier = 1
code R.SpareBits = 2
code R.FrameLength = 3
code R.OtherDevice = 4
code R.NotServed = 5
code R.WrongLength = 6
code R.NoTable = 7
code R.PastEnd = 8
code R.Count = 9
code R.MemoryLength = 10
code R.Unsound = 11
code R.NoFreeSlot = 12
code R.NoTicketLeft = 13
code R.UnknownTicket = 14
code R.NotFinished = 15
code R.GaveUp = 16
code R.NoReader = 17
code R.Different = 18
code R.SlotsRest = 19
code R.CutShort = 20
code R.WrongName = 21
code R.Version = 22
code R.Disagree = 23
code R.FieldType = 24
code R.BlockType = 25
code R.WrongSum = 26
code R.NoRoom = 27
code R.WrongText = 28
code R.NotShown = 30

-- the number that a result gives: 0 for a value
abbrev pub number_of : {A : Type 0} → Result A Refusal → ℕ
number_of (Ok x) = 0
number_of (Err e) = code e

-- as a number and a value; "every other number in it is 0": `none` stands for the value of a refusal
abbrev pub given : {A : Type 0} → A → Result A Refusal → ℕ × A
given none (Ok x) = (0, x)
given none (Err e) = (code e, none)

-- all refusals, by their numbers
abbrev pub refusals : List Refusal
refusals =
    R.HighIdentifier
    ∷ R.SpareBits
    ∷ R.FrameLength
    ∷ R.OtherDevice
    ∷ R.NotServed
    ∷ R.WrongLength
    ∷ R.NoTable
    ∷ R.PastEnd
    ∷ R.Count
    ∷ R.MemoryLength
    ∷ R.Unsound
    ∷ R.NoFreeSlot
    ∷ R.NoTicketLeft
    ∷ R.UnknownTicket
    ∷ R.NotFinished
    ∷ R.GaveUp
    ∷ R.NoReader
    ∷ R.Different
    ∷ R.SlotsRest
    ∷ R.CutShort
    ∷ R.WrongName
    ∷ R.Version
    ∷ R.Disagree
    ∷ R.FieldType
    ∷ R.BlockType
    ∷ R.WrongSum
    ∷ R.NoRoom
    ∷ R.WrongText
    ∷ R.NotShown
    ∷ []

-- the first of these with a number
abbrev pub first_with : ℕ → List Refusal → Refusal
first_with n [] = R.NotShown
first_with n (e ∷ es) = cond (eqb (code e) n) e (first_with n es)

-- the refusal with a number that a refusal has
unfoldable pub refusal_of : ℕ → Refusal
refusal_of n = first_with n refusals

-- a value where the number is 0, else the refusal with this number
unfoldable pub checked : {A : Type 0} → ℕ → A → Result A Refusal
checked zero x = Ok x
checked (suc n) x = Err (refusal_of (suc n))
