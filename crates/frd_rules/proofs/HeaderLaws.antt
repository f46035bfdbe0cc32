-- Laws of reading a header: what its answer says, where its signature stands, and what no refusal says of the file.
use Prim.Native.Nat.{ℕ, zero, suc, ◌≤◌}
use mathlib.Core.Path.{◌≡◌, refl, ap, ◌∙◌}
use mathlib.Core.List.{List}
use native.Mathlib.Omega.{arith}
use borrow.Author.Tests.{eqb-true, ltb-false, not-false}
use lib.ListN.{length}
use Rattle.wire.specs.BigEndian.{be_of, be_at}
use Rattle.std.proofs.Common.{Ok, Err}
use Rattle.wire.specs.Answer.{result_of}
use Rattle.wire.specs.Refusals.{code}
use Rattle.wire.specs.declared.refusal.Refusal.{Refusal}
use Rattle.wire.specs.Log.{span_with, as_span, Holds}
use Rattle.wire.proofs.RefusalLaws.{code_ne0, answered, refused, held}
use Rattle.wire.proofs.Orders.{if_zero}
use Rattle.frd_rules.specs.Header.{header_len, signature_place, signature_len, name, version, numbers_of, signature_in}
use Rattle.frd_rules.specs.Header.{read_header_number, read_header_of, no_header, head_answer, read_signature_of}
use Rattle.frd_rules.specs.declared.Header.{Header}

-- what is handed back, and what it says
pub header_refused : (f : List ℕ) (e : Refusal) → code e ≡ read_header_number f
    → (Err e ≡ read_header_of f) × (head_answer (Err e) ≡ result_of no_header (read_header_number f) (numbers_of f))
unfolding read_header_of head_answer
header_refused f e h = refused no_header _ _ e h

pub header_held : (f : List ℕ) (h : Header) → read_header_number f ≡ 0 → h ≡ numbers_of f
    → (Ok h ≡ read_header_of f) × (head_answer (Ok h) ≡ result_of no_header (read_header_number f) (numbers_of f))
unfolding read_header_of head_answer
header_held f h n e = held no_header _ _ h n e

-- a header that was refused, with its number
number_is : {A : Type 0} (none x : A) (n : ℕ) → (result_of none n x).0 ≡ n
unfolding result_of
number_is none x zero = refl
number_is none x (suc n) = refl

pub head_refused : (f : List ℕ) (e : Refusal) → head_answer (Err e) ≡ result_of no_header (read_header_number f) (numbers_of f)
    → code e ≡ read_header_number f
unfolding head_answer
head_refused f e h = ap (λ (p : ℕ × Header). p.0) h ∙ number_is no_header (numbers_of f) (read_header_number f)

-- where the signature stands, in a file whose header is refused or not
span_refused : (n start len : ℕ) (e : Refusal) → code e ≡ n → as_span (Err e) ≡ span_with n start len
unfolding span_with
span_refused zero start len e h = absurd (code_ne0 e h)
span_refused (suc n) start len e h = rw h

span_stands : (n start len : ℕ) → n ≡ 0 → as_span (Ok (record { start = start; len = len })) ≡ span_with n start len
unfolding span_with
span_stands zero start len h = refl
span_stands (suc n) start len h = absurd (omega arith)

pub signature_refused : (f : List ℕ) (e : Refusal) → code e ≡ read_header_number f → as_span (Err e) ≡ read_signature_of f
unfolding read_signature_of
signature_refused f e h = span_refused _ _ _ e h

pub signature_stands : (f : List ℕ) → read_header_number f ≡ 0
    → as_span (Ok (record { start = signature_place; len = signature_len })) ≡ read_signature_of f
unfolding read_signature_of
signature_stands f h = span_stands _ _ _ h

-- its bytes
pub signature_holds : (f bytes : List ℕ) → read_header_number f ≡ 0 → signature_in f ≡ bytes → Holds f (read_signature_of f) bytes
unfolding signature_in
signature_holds f bytes e b = rw (← signature_stands f e) (refl, b)

-- a header that was handed back
pub head_given : (f : List ℕ) (h : Header) → read_header_of f ≡ Ok h → (read_header_number f ≡ 0) × (numbers_of f ≡ h)
unfolding read_header_of
head_given f h = answered _ _ h

-- what a header that no number refuses says of its file
pub record Known (f : List ℕ) : Type 0 where
  pub long : header_len ≤ length f
  pub named : be_at 6 f 0 ≡ be_of name
  pub served : (numbers_of f).version ≡ version
  pub begins : (numbers_of f).begin ≡ header_len

pub known : (f : List ℕ) → read_header_number f ≡ 0 → Known f
unfolding read_header_number
known f e =
    let a = if_zero 19 _ _ e in
    let b = if_zero 20 _ _ a.1 in
    let d = if_zero 21 _ _ b.1 in
    let g = if_zero 22 _ _ d.1 in
    record {
      long = ltb-false _ _ a.0;
      named = eqb-true _ _ (not-false _ b.0);
      served = eqb-true _ _ (not-false _ d.0);
      begins = eqb-true _ _ (not-false _ g.0);
    }
