-- A look-up and a shift are eight steps.
use Rattle.std.proofs.Common.{ℕ, ◌/◌, sym, ap, ◌∙◌, rules}
use lib.Bits.{bit_xor, bit_and, and_mask}
use Rattle.fcs.specs.Fcs.{eight}
use Rattle.fcs.proofs.Linear.{step_split, linear}
use Rattle.fcs.proofs.step.Goals as goal

pub returns : goal.returns
returns c =
    record {
      value =
          ap (bit_xor (c.args.register / 256))
          (c.entry.ensures ∙ ap (λ (x : ℕ). eight (bit_and (bit_xor c.args.register x) 255)) c.from.ensures
          ∙ ap eight (and_mask (bit_xor c.args.register c.args.byte) 8))
          ∙ sym (step_split c.args.register c.args.byte (search rules));
      linear = linear;
    }
