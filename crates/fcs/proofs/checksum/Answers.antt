-- The two bytes, and that they and no others bring the register to F0B8.
use Rattle.std.proofs.Common.{◌≡◌, ◌/◌, ◌<◌, ap, ◌∙◌, mod-eq_of_lt, arith, rules}
use lib.Bits.{bit_xor, xor_lt}
use Rattle.fcs.specs.Fcs.{extended, check_bytes}
use Rattle.fcs.proofs.Residue.{leaves_residue, only_checksum}
use Rattle.fcs.proofs.checksum.Goals as goal

pub returns : goal.returns
returns c =
    let check = bit_xor c.args.register 65535 in
    let fits : check < 65536 = xor_lt 16 c.args.register 65535 c.ranges.register.fits (omega arith) in
    let bytes : c.to_le_bytes.result ≡ check_bytes c.args.register = search (rules, mod-eq_of_lt {n = check / 256} {m = 256} (omega (arith, fits))) in
    record {
      value = bytes;
      good = ap (extended c.args.register) bytes ∙ leaves_residue c.args.register;
      only = only_checksum;
    }
