use Rattle.std.proofs.Common.{◌≡◌, ◌+◌, ◌-◌, drop, refl, sym, ◌∙◌, length-set, arith}
use Rattle.wire.specs.Text.{zeros}
use Rattle.mlg_rules.specs.Area.{area_of}
use Rattle.mlg_rules.proofs.AreaLaws.{area_from}
use Rattle.mlg_rules.proofs.ZeroLaws.{found_next, found_all, found_last, info_found, names_none}
use Rattle.mlg.proofs.fields.last_zeros.Goals as goal

pub loop-k-init : goal.loop-k-init
loop-k-init c =
    let n = c.args.names.now in
    let i = c.args.info.now in
    let first = c.info_zero.ensures in
    let zeros-in = c.info_zeros-k.ensures.0 in
    (info_found n i _ _ first.0 first.1 zeros-in c.requires, names_none n i ∙ sym zeros-in, refl, omega arith)

pub returns-in_default : goal.returns-in_default
returns-in_default c =
    let a = c.args in
    let n = a.names.now in
    let i = a.info.now in
    let loop = c.loop-k in
    let none = c.in_default.ensures.none refl in
    let all : zeros (area_of n i) ≡ loop.k = omega (arith, none, area_from n i 0 (omega arith), area_from n i loop.end (omega arith), loop.invariant.1) in
    found_last _ _ loop.k all loop.invariant.0

pub overflow_add-last : goal.overflow_add-last
overflow_add-last c = omega (arith, (c.in-Some.ensures.some _ refl).2)

pub loop-k-preserved : goal.loop-k-preserved
loop-k-preserved c =
    let a = c.args in
    let n = a.names.now in
    let i = a.info.now in
    let loop = c.loop-k in
    let z = c.in-Some.zero in
    let zero = c.in-Some.ensures.some _ refl in
    let from = area_from n i loop.end (omega arith) in
    let after : zeros (drop (z + 1) (area_of n i)) ≡ loop.k
    = omega (arith, zero.0, zero.2, area_from n i (z + 1) (omega (arith, zero.2)), from, loop.invariant.1) in
    let here : zeros (drop z (area_of n i)) ≡ 1 + loop.k = omega (arith, zero.1, zero.2, area_from n i z (omega (arith, zero.2)), from, loop.invariant.1) in
    let q : z + 1 - 1 ≡ z = omega arith in
    let found = found_next _ _ (z + 1) loop.k (λ e. omega arith) after (rw q here) (omega arith) loop.invariant.0 in
    (found, omega (arith, here), simp length-set loop.invariant.2, omega (arith, zero.2))

pub returns : goal.returns
returns c = found_all _ _ c.loop-k.k (omega arith) c.loop-k.invariant.0
