use Rattle.std.proofs.Common.{map, arith}
use Rattle.payload_header.specs.Reading.{fields}
use Rattle.payload_header.proofs.HeaderLists.{ends_short, is_over, code_last, code_more}
use Rattle.payload_header.proofs.reading.headers_of.Goals as goal

pub returns-then-rest-lt6 : goal.returns-then-rest-lt6
returns-then-rest-lt6 c =
    ends_short (map fields c.loop.headers.items) c.loop.counter c.loop.rest.now _ c.loop-test.true
    c.if-rest-lt6.true c.loop.invariant.reads

pub returns : goal.returns
returns c =
    is_over (map fields c.loop.headers.items) c.loop.counter c.loop.rest.now _ c.loop-test.false
    c.loop.invariant.reads

pub returns-then-not-header : goal.returns-then-not-header
returns-then-not-header c =
    code_last c.loop.headers.items c.loop.counter c.loop.rest.now c.split_at.result.0.now
    c.split_at.result.1.now _ c.header_at-header.result c.push.new.self.items c.loop-test.true
    c.if-rest-lt6.false
    c.header_at-header.ensures c.split_at.ensures.front c.split_at.ensures.back
    c.if-not-header.true c.push.ensures.items c.loop.invariant.reads

pub loop-preserved : goal.loop-preserved
loop-preserved c = record {
  reads =
      code_more c.loop.headers.items c.loop.counter c.loop.rest.now c.split_at.result.0.now
      c.split_at.result.1.now _ c.header_at-header.result c.push.new.self.items c.loop-test.true
      c.if-rest-lt6.false
      c.header_at-header.ensures c.split_at.ensures.front c.split_at.ensures.back
      c.if-not-header.false c.push.ensures.items c.loop.invariant.reads;
  as_many = omega (arith, c.push.ensures.len, c.loop.invariant.as_many);
}
