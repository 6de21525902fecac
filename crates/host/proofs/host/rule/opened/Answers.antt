-- A good list is brought; for any other the rule is that of a bad one.
use Rattle.ends.specs.Host.{opened, stale}
use Rattle.host.proofs.Lists.{list_of, by_good, by_bad}
use Rattle.host.proofs.host.rule.opened.Goals as goal

pub returns-in-Some : goal.returns-in-Some
returns-in-Some c = λ inn. record {
  rule = by_good inn c.args.text.now opened stale c.in-Some.ensures.0;
  brings = list_of c.args.text.now c.in-Some.list c.in-Some.ensures.1;
  confirms = λ s. tt;
}

pub returns-in-None : goal.returns-in-None
returns-in-None c = λ inn. record {
  rule = by_bad inn c.args.text.now opened stale c.in-None.ensures;
  brings = λ a e. tt;
  confirms = λ s. tt;
}
