use Rattle.std.proofs.Common.{◌≡◌, ◌-◌, ◌*◌, ◌^◌, ◌<◌, drop}
use Rattle.written.specs.Hex.{hex_read}
use Rattle.written.proofs.hex.read_word.Given as goal

abbrev pub invariant-loop-byte : goal.invariant-loop-byte
invariant-loop-byte l = record {
  fits : l.predicate < 2 ^ (4 * l.byte-index);
  read : hex_read 16 0 l.bytes ≡ hex_read (16 - l.byte-index) l.predicate (drop l.byte-index l.bytes);
}
