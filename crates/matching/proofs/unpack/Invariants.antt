-- `unpack` meets its contract. The invariant: the first k bytes are written.
use Rattle.lemmas.specs.Stores.{Filled}
use Rattle.matching.specs.Bits.{byte_of}
use Rattle.matching.proofs.unpack.Given as goal

abbrev pub invariant-loop-k : goal.invariant-loop-k
invariant-loop-k l = Filled 0 (byte_of l.set) l.k l.initial.row l.row
