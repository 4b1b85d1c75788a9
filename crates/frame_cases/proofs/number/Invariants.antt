-- `number` meets its contract. The invariant: so many digits have been read, and it has no more.
use Rattle.std.proofs.Common.{◌^◌, ◌<◌}
use Rattle.frame_cases.proofs.number.Given as goal

abbrev pub invariant-loop-digit : goal.invariant-loop-digit
invariant-loop-digit l = l.number < 10 ^ l.digit-index
