-- Reading and writing against the whole program: what was read is the paper's call, and what was written is an answer to the text.
use Rattle.std.specs.Prelude.{ℕ, ◌*◌, ◌≤◌, ◌<◌, ◌≡◌, ◌&&◌, List, [], eqb, length, take, drop}
use Rattle.std.proofs.Common.{sym, ◌∙◌, ap, subst, inl, inr, arith, take_at}
use Rattle.std.proofs.lemmas.List.{length-map}
use Rattle.lemmas.specs.Counts.{count_most}
use Rattle.paper.specs.declared.Group.{Group}
use Rattle.paper.specs.Answer.Cases.{Answer}
use Rattle.paper.specs.Panel.Input.{graph, Call, Buffers}
use Rattle.paper.specs.Site.Acting.{acts}
use Rattle.paper.specs.Site.Bonds.{holds}
use Rattle.paper.specs.Component.Sizes.{counted, label_of, size_of}
use Rattle.paper.specs.Refusal.Rule.{Kept, Broken}
use Rattle.paper.specs.Refusal.Verdict.{Verdict}
use Rattle.paper.specs.Answer.Move.{Answers, SeenAll, Accepted, accepted_zero}
use Rattle.paper.specs.Answer.Frame.{bytes, signed, frame_lattice, frame_call, frame_choices, frame_buffers, HasBack, frame_rules, refusal, FrameAnswers}
use Rattle.laws.specs.Unique.{label_lt}
use Rattle.frame_lines.specs.declared.Sizes.{Sizes}
use Rattle.frame_lines.specs.Spelling.{line2, line3, spelling_rules, value_rules, Spelling, spelling_of, misspelt, misvalued, all_kept}
use Rattle.frame_text.specs.Digits.{Below}
use Rattle.frame_lines.specs.Words.{words_length}
use Rattle.frame_lines.specs.Reading.{Held, Readout}
use Rattle.frame_lines.specs.Writing.{result_of, TwoByte, Fitted, fitted_take}

-- ---- what was read: the used part of each buffer is the paper's, and has the exact length
module _ {text : List ℕ} {b : Held} {z : Sizes} {g : Group} {a : Held} (r : Readout text b z g a) where
  spelling : Spelling text
  spelling = spelling_of text r.spelt

  pub spins_count : length (frame_buffers text).spins ≡ z.s * z.n
  spins_count = length-map (bytes (line2 text)) signed ∙ (spelling.spins_line.long ∙ ap (λ (y : Sizes). y.s * y.n) (sym r.sizes))

  pub fwd_count : length (frame_lattice text []).fwd ≡ z.n * z.d
  fwd_count =
      words_length (bytes (line3 text)) ((frame_lattice text []).n * (frame_lattice text []).d) spelling.fwd_line.long
      ∙ ap (λ (y : Sizes). y.n * y.d) (sym r.sizes)

  pub perms_count : length (frame_choices text).choices ≡ z.n * g.len
  perms_count = spelling.perms_line.long ∙ (λ i. (sym r.sizes i).n * (sym r.group i).len)

  pub spins_part : take (z.s * z.n) a.spins ≡ (frame_buffers text).spins
  spins_part = rw r.spins (take_at (frame_buffers text).spins (drop (z.s * z.n) b.spins) (z.s * z.n) spins_count)

  pub fwd_part : take (z.n * z.d) a.fwd ≡ (frame_lattice text []).fwd
  fwd_part = rw r.fwd (take_at (frame_lattice text []).fwd (drop (z.n * z.d) b.fwd) (z.n * z.d) fwd_count)

  pub perms_part : take (z.n * g.len) a.perms ≡ (frame_choices text).choices
  perms_part = rw r.perms (take_at (frame_choices text).choices (drop (z.n * g.len) b.perms) (z.n * g.len) perms_count)

-- ---- what was written, m bytes of out'
module _ (text out : List ℕ) (m : ℕ) (out' : List ℕ) where
  refused : (c : ℕ) → Broken (frame_rules text) c → Fitted (refusal c) out m out' → FrameAnswers text (take m out')
  refused c w f = inl (record { number = c; why = w; written = fitted_take (refusal c) out m out' f })

  -- a rule on spelling or size is broken
  pub answer_misspelt : (c : ℕ) → Broken (spelling_rules text) c → Fitted (refusal c) out m out' → FrameAnswers text (take m out')
  answer_misspelt c w f = refused c (misspelt text c w) f

  -- they are kept, and one of the others is broken
  pub answer_misvalued : (c : ℕ) → Kept (spelling_rules text) → Broken (value_rules text) c → Fitted (refusal c) out m out' → FrameAnswers text (take m out')
  answer_misvalued c k w f = refused c (misvalued text c k w) f

  -- all are kept, and the move was run
  pub answer_run : (back : HasBack text) (r : Answer) (after : Buffers)
      → Kept (spelling_rules text)
      → Kept (value_rules text)
      → Accepted r
      → Answers (frame_call text back.bwd) (frame_choices text) (frame_buffers text) r after
      → Fitted (result_of after.labels after.counts after.spins) out m out'
      → FrameAnswers text (take m out')
  answer_run back r after k v ok w f = inr (record {
    valid = subst (Verdict (frame_rules text)) (sym (accepted_zero ok)) (all_kept text k v);
    back = back;
    answer = r;
    after = after;
    accepted = ok;
    answers = w;
    written = fitted_take (result_of after.labels after.counts after.spins) out m out' f;
  })

-- ---- what an accepted move leaves is held by two bytes
pub seen_small : (c : Call) (b b' : Buffers) → SeenAll c b b' → c.lattice.n ≤ 4096 → TwoByte b'.labels b'.counts
seen_small c b b' v h = record { small_labels = labels; small_counts = counts }
  where
    few : length b'.labels ≤ 4096
    few = omega (arith, v.labels.labels.long)

    labels : Below 65536 b'.labels
    labels i l =
        let inside : i < c.lattice.n = omega (arith, v.labels.labels.long) in
        omega (arith, label_lt (graph c) (holds c b.spins) b'.labels v.labels.labels i inside)

    counts : Below 65536 b'.counts
    counts s l =
        let most : s ≤ length b'.labels = omega (arith, v.counts.long) in
        let all = count_most (λ i. counted (acts c b.spins) b'.labels i && eqb (size_of b'.labels (label_of b'.labels i)) s)
        (length b'.labels) in
        omega (arith, few, v.counts.each s most, all)
