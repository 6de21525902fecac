use Rattle.std.proofs.Common.{◌∙◌, ap}
use Rattle.script.specs.Reading.{text_says}
use Rattle.script.proofs.LineReads.{line_reads}
use Rattle.script.proofs.PlainLine.{plain_is_line}
use Rattle.script.proofs.reading.read.Goals as goal

pub returns-clause-law : goal.returns-clause-law
returns-clause-law c = λ said written. c.command.ensures ∙ ap text_says c.uncommented.ensures ∙ line_reads said c.args.line.now written

pub returns-clause-plain : goal.returns-clause-plain
returns-clause-plain c = λ said fits plain. returns-clause-law c said (plain_is_line said c.args.line.now fits plain)
