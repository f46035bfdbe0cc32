use Rattle.std.proofs.Common.{◌≡◌, ℕ, ◌+◌, ◌-◌, ◌≤◌, List, ◌++◌, length, take, sym, ap, ◌∙◌, arith, length-take-le}
use Rattle.std.proofs.KnownBytes.{Consumes-trans}
use Rattle.std.proofs.lemmas.Grind.{common_steps}
use Rattle.std.proofs.lemmas.List.{take-append-le}
use Rattle.std.proofs.Math.Seq.{take-append-add}
use borrow.Rule.Slice.PartMut.{put_mid, post_of}
use Rattle.input.proofs.read_full.Goals as goal

-- what stands at the buffer's start after a read behind it
more : (a k n : ℕ) (xs ys : List ℕ) → a ≤ length xs → n ≤ length ys → take (a + n) (put_mid a k xs ys) ≡ take a xs ++ take n ys
more a k n xs ys h i =
    let e : length (take a xs) ≡ a = length-take-le a xs h in
    ap (λ (m : ℕ). take (m + n) (put_mid a k xs ys)) (sym e) ∙ take-append-add (take a xs) (ys ++ post_of a k xs) n
    ∙ ap (λ (l : List ℕ). take a xs ++ l) (take-append-le n ys (post_of a k xs) i)

pub loop-len-preserved : goal.loop-len-preserved
loop-len-preserved g c =
    let l = c.loop-len in
    let n = c.in-Ok.n in
    let k = Consumes-trans (g.R.Read.remaining c.args.input.now) (g.R.Read.remaining l.input) (g.R.Read.remaining c.read.new.self)
    (take l.len l.buffer) (take n c.read.new.buf) l.invariant.none_lost c.in-Ok.ensures.bytes.0 in
    let e = more l.len (length l.buffer - l.len) n l.buffer c.read.new.buf l.invariant.bound c.in-Ok.ensures.bound.0 in
    let f : length (put_mid l.len (length l.buffer - l.len) l.buffer c.read.new.buf) ≡ length l.buffer = grind (arith, common_steps) in
    record { bound = omega (arith, c.in-Ok.ensures.bound.0); none_lost = rw e k }
