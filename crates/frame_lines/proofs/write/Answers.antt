-- `frame_lines::write` meets its contract: three lines, one behind another.
use Prim.Native.Nat.{ℕ, ◌+◌, ◌*◌, ◌≤◌}
use mathlib.Core.Path.{◌≡◌}
use mathlib.Core.List.{List, ◌++◌}
use native.Mathlib.Omega.{arith}
use lib.ListN.{length}
use Rattle.paper.specs.Answer.Frame.{line, two_bytes}
use Rattle.frame_lines.specs.Writing.{result_of, Put, words_line_length, spins_line_length, result_length, short_of, put_long, put_both, put_fitted}
use Rattle.frame_lines.proofs.write.Goals as goal

pub returns-then-out-words : goal.returns-then-out-words
returns-then-out-words c =
    let total : length (result_of c.args.labels.now c.args.counts.now c.args.spins.now) ≡ 4 * length c.args.labels.now + 4 * length c.args.counts.now + 2 * length c.args.spins.now + 9 = result_length c.args.labels.now c.args.counts.now c.args.spins.now in
    short_of _ _ (omega (arith, total))

pub returns-then-left-lt3 : goal.returns-then-left-lt3
returns-then-left-lt3 c =
    let total : length (result_of c.args.labels.now c.args.counts.now c.args.spins.now) ≡ 4 * length c.args.labels.now + 4 * length c.args.counts.now + 2 * length c.args.spins.now + 9 = result_length c.args.labels.now c.args.counts.now c.args.spins.now in
    short_of _ _ (omega (arith, total))

pub returns-then-left-spins : goal.returns-then-left-spins
returns-then-left-spins c =
    let total : length (result_of c.args.labels.now c.args.counts.now c.args.spins.now) ≡ 4 * length c.args.labels.now + 4 * length c.args.counts.now + 2 * length c.args.spins.now + 9 = result_length c.args.labels.now c.args.counts.now c.args.spins.now in
    short_of _ _ (omega (arith, total))

pub put_words-second-requires : goal.put_words-second-requires
put_words-second-requires c =
    let enough : 4 * length c.args.labels.now + 4 * length c.args.counts.now + 2 * length c.args.spins.now + 9 ≤ length c.args.out.now = omega arith in
    record { small = c.requires.small_labels; fits = omega (arith, enough, words_line_length 0x20 c.args.labels.now) }

pub put_words-third-requires : goal.put_words-third-requires
put_words-third-requires c =
    let enough : 4 * length c.args.labels.now + 4 * length c.args.counts.now + 2 * length c.args.spins.now + 9 ≤ length c.args.out.now = omega arith in
    let L : List ℕ = c.args.labels.now in
    let C : List ℕ = c.args.counts.now in
    let first : Put (line 0x20 (two_bytes L)) c.args.out.now 0 c.put_words-second.result c.put_words-second.new.out = c.put_words-second.ensures in
    record {
      small = c.requires.small_counts;
      fits = omega (arith, enough, first.next, put_long _ _ _ _ _ first, words_line_length 0x20 L, words_line_length 0x21 C);
    }

pub put_spins-end-requires : goal.put_spins-end-requires
put_spins-end-requires c =
    let enough : 4 * length c.args.labels.now + 4 * length c.args.counts.now + 2 * length c.args.spins.now + 9 ≤ length c.args.out.now = omega arith in
    let L : List ℕ = c.args.labels.now in
    let C : List ℕ = c.args.counts.now in
    let first : Put (line 0x20 (two_bytes L)) c.args.out.now 0 c.put_words-second.result c.put_words-second.new.out = c.put_words-second.ensures in
    let second : Put (line 0x21 (two_bytes C)) c.put_words-second.new.out c.put_words-second.result c.put_words-third.result c.put_words-third.new.out = c.put_words-third.ensures in
    let both : Put (line 0x20 (two_bytes L) ++ line 0x21 (two_bytes C)) c.args.out.now 0 c.put_words-third.result c.put_words-third.new.out = put_both _ _ _ _ _ _ _ _ first second in
    record {
      fits = omega (
        arith,
        enough,
        first.next,
        second.next,
        put_long _ _ _ _ _ both,
        words_line_length 0x20 L,
        words_line_length 0x21 C,
        spins_line_length 0x22 c.args.spins.now,
      );
    }

pub returns : goal.returns
returns c =
    let total : length (result_of c.args.labels.now c.args.counts.now c.args.spins.now) ≡ 4 * length c.args.labels.now + 4 * length c.args.counts.now + 2 * length c.args.spins.now + 9 = result_length c.args.labels.now c.args.counts.now c.args.spins.now in
    let enough : 4 * length c.args.labels.now + 4 * length c.args.counts.now + 2 * length c.args.spins.now + 9 ≤ length c.args.out.now = omega arith in
    let L : List ℕ = c.args.labels.now in
    let first : Put (line 0x20 (two_bytes L)) c.args.out.now 0 c.put_words-second.result c.put_words-second.new.out = c.put_words-second.ensures in
    let C : List ℕ = c.args.counts.now in
    let second : Put (line 0x21 (two_bytes C)) c.put_words-second.new.out c.put_words-second.result c.put_words-third.result c.put_words-third.new.out = c.put_words-third.ensures in
    put_fitted _ _ _ _ (omega (arith, total, enough)) (put_both _ _ _ _ _ _ _ _ first
    (put_both _ _ _ _ _ _ _ _ second c.put_spins-end.ensures))
