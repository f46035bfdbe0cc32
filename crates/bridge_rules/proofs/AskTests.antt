-- What was asked for is a read, a write or a checked write; what follows for its bytes.
use mathlib.Core.Path.{◌≡◌, refl, sym}
use mathlib.Core.Bool.{true, false, false≢true}
use lib.ListN.{length}
use Rattle.bridge_rules.specs.Opening.{Ask, read, write, check, is_read, is_write, is_check, ask_count, ask_given}

-- one of the three
pub ask_cases : {A : Type 0} (a : Ask) → (is_read a ≡ true → A) → (is_write a ≡ true → A) → (is_check a ≡ true → A) → A
ask_cases (read d t o n) f g h = f refl
ask_cases (write d t o bs) f g h = g refl
ask_cases (check d t o bs) f g h = h refl

-- and no other
pub write_not_read : (a : Ask) → is_write a ≡ true → is_read a ≡ false
write_not_read (read d t o n) e = absurd (false≢true e)
write_not_read (write d t o bs) e = refl
write_not_read (check d t o bs) e = refl

pub check_not_read : (a : Ask) → is_check a ≡ true → is_read a ≡ false
check_not_read (read d t o n) e = absurd (false≢true e)
check_not_read (write d t o bs) e = refl
check_not_read (check d t o bs) e = refl

pub read_not_check : (a : Ask) → is_read a ≡ true → is_check a ≡ false
read_not_check (read d t o n) e = refl
read_not_check (write d t o bs) e = refl
read_not_check (check d t o bs) e = absurd (false≢true e)

pub write_not_check : (a : Ask) → is_write a ≡ true → is_check a ≡ false
write_not_check (read d t o n) e = refl
write_not_check (write d t o bs) e = refl
write_not_check (check d t o bs) e = absurd (false≢true e)

-- the given bytes are as many as the count
pub given_count : (a : Ask) → is_read a ≡ false → ask_count a ≡ length (ask_given a)
given_count (read d t o n) e = absurd (false≢true (sym e))
given_count (write d t o bs) e = refl
given_count (check d t o bs) e = refl
