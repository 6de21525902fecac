-- The fold over the bytes is the register's, by the table and bit by bit alike.
use Rattle.std.proofs.Common.{rules, ◌≡◌, ◌∙◌}
use Rattle.fcs.specs.Fcs.{extended}
use Rattle.fcs.proofs.Extended.{extended_serial}
use Rattle.fcs.proofs.extend.Goals as goal

pub returns : goal.returns
unfolding extended
returns c =
    let value : c.fold.result ≡ extended c.args.register c.args.bytes.now = search rules in
    record { value = value; serial = value ∙ extended_serial c.args.register c.args.bytes.now (λ k h. (c.type_inv.bytes k).fits) }
