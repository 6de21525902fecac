use Rattle.std.proofs.Common.{refl, length, arith}
use Rattle.strip.proofs.Walk.{stepped, walked}
use Rattle.strip.proofs.records.walk.RecordsIterator.next.Goals as goal

pub invariant_of-self : goal.invariant_of-self
invariant_of-self c =
    let r = c.args.self.now in
    let p = stepped r.rest.now r.left _ (length r.rest.now) r.storable r.whole c.if-self-eq0.false refl refl in
    record { storable = p.storable; whole = p.whole; high = (let l = p.fits in let h = r.high in omega arith) }

pub returns-clause-steps : goal.returns-clause-steps
returns-clause-steps c =
    let r = c.args.self.now in
    walked r.rest.now r.left _ (length r.rest.now) r.at r.storable r.whole c.if-self-eq0.false refl refl
