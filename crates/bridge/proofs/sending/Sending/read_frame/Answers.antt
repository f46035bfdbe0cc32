use Prim.Native.Nat.{ℕ, ◌+◌, ◌*◌}
use mathlib.Core.Path.{◌≡◌, refl, sym, ◌∙◌, ap}
use mathlib.Core.List.{List}
use lib.ListN.{length}
use native.Mathlib.Omega.{arith}
use Rattle.std.specs.Prelude.{Result, Ok}
use Rattle.wire.specs.declared.refusal.Refusal.{Refusal}
use Rattle.bus_rules.specs.Request.{request}
use Rattle.bridge_rules.specs.Turn.{read_frame}
use Rattle.bridge_rules.proofs.FrameLaws.{len_eight}
use Rattle.bridge.proofs.SentFrames.{asks_ok}
use Rattle.bridge.proofs.sending.Sending.read_frame.Goals as goal
use Rattle.bridge.proofs.sending.Sending.read_frame.Goals.{After-request_bytes}

-- the request's three bytes
asked : (c : After-request_bytes)
    → c.request_bytes.result ≡ Ok (request 6 (128 * c.args.self.k + c.args.self.slot.progress) c.chunk_len.result)
asked c =
    let x = c.args.self.slot in
    asks_ok _ _ c.request_bytes.ensures.value (omega arith) (omega (arith, c.chunk_len.ensures, len_eight x.count x.progress)) (omega arith)

-- as they are unwrapped
same : (r : Result (List ℕ) Refusal) (x y : List ℕ) → r ≡ Ok x → r ≡ Ok y → x ≡ y
same r x y e h = let z : Ok x ≡ Ok y = sym e ∙ h in cc

pub unwrap-three-requires : goal.unwrap-three-requires
unwrap-three-requires c = rw (asked c) refl

pub next_frame-requires : goal.next_frame-requires
unfolding request
next_frame-requires c =
    let three = same _ _ _ c.unwrap-three.ensures (asked (goal.at.next_frame-requires c).After-request_bytes) in
    (omega arith, omega (arith, ap length three))

pub returns : goal.returns
unfolding read_frame
returns c =
    let three = same _ _ _ c.unwrap-three.ensures (asked (goal.at.returns c).After-request_bytes) in
    rw (c.next_frame.ensures, three, c.chunk_len.ensures)
