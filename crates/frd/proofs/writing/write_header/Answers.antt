use borrow.Author.Rules.{rules}
use mathlib.Core.Path.{sym}
use native.Mathlib.Omega.{arith}
use lib.ListN.{length}
use Rattle.wire.proofs.Writes.{refuses, writes}
use Rattle.wire.proofs.Orders.{order}
use Rattle.frd_rules.specs.Writing.{header_bytes, write_header_number}
use Rattle.frd_rules.specs.RoundTrip.{LogBack, LogSame}
use Rattle.frd_rules.proofs.AllExamples.{examples}
use Rattle.frd_rules.proofs.HeaderBack.{header_back}
use Rattle.frd_rules.proofs.LogBack.{log_back}
use Rattle.frd_rules.proofs.LogSame.{log_same}
use Rattle.frd_rules.proofs.WritingLaws.{header_length, room_short, room_left, header_put}
use Rattle.frd.proofs.writing.write_header.Goals as goal

-- what every answer promises of the header, of logs and of the examples
logs : LogBack × LogSame
logs = (log_back, log_same)

pub returns-then-signature-ne63 : goal.returns-then-signature-ne63
unfolding write_header_number
returns-then-signature-ne63 c =
    record {
      value = refuses 23 _ _ _ (search order depth 9) (λ z. omega arith);
      back = header_back _ _ _ (search rules) (search rules);
      logs = logs;
      examples = examples;
    }

pub returns-then-out-lt81 : goal.returns-then-out-lt81
unfolding write_header_number
returns-then-out-lt81 c =
    let a = c.args in
    let k = header_length a.time a.signature.now a.size c.if-signature-ne63.false in
    let s = room_short (header_bytes a.time a.signature.now a.size) (length a.out.now) (omega arith) in
    record {
      value = refuses 27 _ _ _ (search (order, s) depth 9) (λ z. omega arith);
      back = header_back _ _ _ (search rules) (search rules);
      logs = logs;
      examples = examples;
    }

pub returns : goal.returns
unfolding write_header_number
returns c =
    let a = c.args in
    let k = header_length a.time a.signature.now a.size c.if-signature-ne63.false in
    let s = room_left (header_bytes a.time a.signature.now a.size) (length a.out.now) (omega arith) in
    let p =
    header_put a.time a.size a.out.now a.signature.now _ _ (rw c.four_bytes-t.ensures) (rw c.two_bytes-s.ensures)
    c.if-signature-ne63.false (omega arith) c.put.ensures c.put-2.ensures c.put-3.ensures in
    record {
      value = writes _ _ _ _ _ (search (order, s) depth 9) (sym k) p;
      back = header_back _ _ _ (search rules) (search rules);
      logs = logs;
      examples = examples;
    }
