-- The whole program on a text: what its functions promise, and why that answers the text.
use Rattle.std.specs.Prelude.{ℕ, zero, suc, ◌+◌, ◌*◌, ◌≤◌, ◌<◌, ◌≡◌, ◌⊎◌, Bool, length, get_or, take, drop, replicate, ℤ}
use Rattle.std.proofs.Math.Path.{refl, subst}
use Rattle.std.proofs.Common.{sym, ◌∙◌, ap, inr, arith, length-append, length-drop, take_all}
use Rattle.std.proofs.Math.Logic.{inl}
use Rattle.std.proofs.Math.Bool.{true, false}
use mathlib.Core.List.{List, [], ◌∷◌, ◌++◌}
use Rattle.std.proofs.lemmas.List.{length-replicate, get_or-replicate}
use Rattle.lemmas.specs.Cells.{table}
use Rattle.lemmas.specs.Tells.{Tells}
use Rattle.paper.specs.declared.Group.{Group}
use Rattle.paper.specs.Answer.Cases.{Answer, Answer.Refused, Answer.Idle, Answer.Held, Answer.Moved}
use Rattle.paper.specs.declared.Mode.TheVariants.{Perm}
use Rattle.paper.specs.declared.Form.TheVariants.{Sw}
use Rattle.paper.specs.declared.Keeps.TheVariants.{Nothing}
use Rattle.paper.specs.Panel.Input.{Call, Choices, Buffers}
use Rattle.paper.specs.Site.Bonds.{whole}
use Rattle.paper.specs.Refusal.Rule.{Kept}
use Rattle.paper.specs.Refusal.Rules.{AllSystems, Spins, Inverse, rules}
use Rattle.paper.specs.Answer.Move.{Refuses, Answers, Accepted.idle, Accepted.held, Accepted.moved}
use Rattle.paper.specs.Answer.Frame.{frame_lattice, frame_call, frame_choices, frame_buffers, HasBack, refusal, FrameAnswers}
use Rattle.paper.specs.Panel.Made.{call_of, choices_of, buffers_of}
use Rattle.lattice.specs.Spinning.{AllSpins, all_rows}
use Rattle.steps.specs.Rule.{task_of}
use Rattle.frame_lines.specs.declared.Sizes.{Sizes}
use Rattle.frame_lines.specs.Outcome.{Found}
use Rattle.frame_lines.specs.Outcome.Found.{Fault, Panel}
use Rattle.frame_lines.specs.Outcome.{Written}
use Rattle.frame_lines.specs.Outcome.Written.{Wrote, NoRoom}
use Rattle.frame_lines.specs.Spelling.{spelling_rules, Spelling, spelling_of, misspelt, misvalued, all_kept, broken_small, misspelt_small}
use Rattle.frame_lines.specs.Reading.{AnyPanelFits, Held as Lent, Misread, Readout, FoundAs}
use Rattle.frame_lines.specs.Writing.{result_of, TwoByte, Fitted, WrittenAs, RefusalAs, count, shorter, fitted_take, fitted_drop}
use Rattle.frame.specs.Back.{Reversed, back_complete}
use Rattle.frame.specs.Values.{values_kept, values_broken}
use Rattle.frame.specs.Joined.{spins_count, fwd_count, perms_count, spins_part, fwd_part, perms_part, seen_small}

-- the text's answer is written, if there is room for it
pub record RunAs (text before : List ℕ) (w : Written) (after : List ℕ) : Type 0 where
  pub answer : List ℕ
  pub answers : FrameAnswers text answer
  pub written : WrittenAs answer before w after

-- what that says of the lent buffer: the answer is its front and the rest is kept, or it has no room and all is kept
pub record Said (text before : List ℕ) (m : ℕ) (after : List ℕ) : Type 0 where
  pub fits : m ≤ length before
  pub answers : FrameAnswers text (take m after)
  pub kept : drop m after ≡ drop m before

pub record Unsaid (text before after : List ℕ) : Type 0 where
  pub answer : List ℕ
  pub answers : FrameAnswers text answer
  pub short : length before < length answer
  pub kept : after ≡ before

abbrev pub Says : List ℕ → List ℕ → Written → List ℕ → Type 0
Says text before (Wrote m) after = Said text before m after
Says text before NoRoom after = Unsaid text before after

pub run_says : (text before : List ℕ) (w : Written) (after : List ℕ) → RunAs text before w after → Says text before w after
run_says text before (Wrote m) after r = record {
  fits = omega (arith, r.written.fits.0, count r.written);
  answers = rw (fitted_take r.answer before m after r.written) r.answers;
  kept = fitted_drop r.answer before m after r.written;
}
run_says text before NoRoom after r = record {
  answer = r.answer;
  answers = r.answers;
  short = shorter r.answer before after r.written;
  kept = r.written.kept;
}

-- so many bytes are there
pub run_fits : (text before : List ℕ) (w : Written) (after : List ℕ) (m : ℕ) → RunAs text before w after → w ≡ Wrote m → m ≤ length after
run_fits text before w after m r e = rw fitted.is (simp length-append (omega (arith, count fitted)))
  where
    fitted : Fitted r.answer before m after
    fitted = subst (λ (v : Written). WrittenAs r.answer before v after) e r.written

-- ---- one perm move, whose backward table is worked out, with no site pinned
abbrev pub perm_call : ℕ → ℕ → ℕ → List ℕ → List ℕ → Group → Call
perm_call n d s fwd bwd g = call_of (task_of Perm Sw Nothing n d s g (whole 1) 0 0) fwd bwd (table n (λ k. 0)) [] []

pub record PermMoved (n d s : ℕ) (g : Group) (fwd perms : List ℕ) (b : Buffers) (r : Answer) (bwd : List ℕ) (spins : List ℤ)
    (labels counts sizes : List ℕ) : Type 0 where
  pub long : length bwd ≡ n * d
  pub reversed : Reversed n d fwd bwd
  pub grey : List ℕ
  pub members : List ℕ
  pub found : List ℕ
  pub grey_found : List ℕ
  pub answers : Answers (perm_call n d s fwd bwd g) (choices_of perms []) b r (buffers_of spins labels grey counts sizes members found grey_found)

-- what is written for a move's answer
abbrev pub answer_text : Answer → List ℕ → List ℕ → List ℤ → List ℕ
answer_text (Refused c) labels counts spins = refusal c
answer_text Idle labels counts spins = result_of labels counts spins
answer_text Held labels counts spins = result_of labels counts spins
answer_text Moved labels counts spins = result_of labels counts spins

-- two decimal digits hold a refusal's number, and two bytes each label and count that is written
abbrev pub Writable : Answer → List ℕ → List ℕ → Type 0
Writable (Refused c) labels counts = c < 100
Writable Idle labels counts = TwoByte labels counts
Writable Held labels counts = TwoByte labels counts
Writable Moved labels counts = TwoByte labels counts

refused_small : {c : Call} {p : Choices} {b : Buffers} {r : ℕ} {b' : Buffers} → Refuses c p b r b' → r < 100
refused_small {c} {p} {b} {r} k = broken_small (rules c p b) r (omega arith) k.why

pub writable : {n d s : ℕ} {g : Group} {fwd perms : List ℕ} {b : Buffers} (r : Answer) {bwd : List ℕ} {spins : List ℤ} {labels counts sizes : List ℕ}
    → n ≤ 4096 → PermMoved n d s g fwd perms b r bwd spins labels counts sizes → Writable r labels counts
writable (Refused c) h m = refused_small m.answers
writable {b = b} Idle {spins = spins} {labels} {counts} {sizes} h m =
    seen_small _ b (buffers_of spins labels m.grey counts sizes m.members m.found m.grey_found) (m.answers.seen.all refl) h
writable {b = b} Held {spins = spins} {labels} {counts} {sizes} h m =
    seen_small _ b (buffers_of spins labels m.grey counts sizes m.members m.found m.grey_found) (m.answers.seen.all refl) h
writable {b = b} Moved {spins = spins} {labels} {counts} {sizes} h m =
    seen_small _ b (buffers_of spins labels m.grey counts sizes m.members m.found m.grey_found) (m.answers.seen.all refl) h

-- some system holds what is no spin, be it in the group or not: that is refused
pub record NoSpinWritten (spins : List ℤ) (out : List ℕ) (w : Written) (out' : List ℕ) : Type 0 where
  pub not_all : AllSpins spins → ⊥
  pub written : WrittenAs (refusal 3) out w out'

-- all are spins; the move ran, and its answer is written
pub record MoveWritten (n d s : ℕ) (g : Group) (fwd perms : List ℕ) (b : Buffers) (out : List ℕ) (w : Written) (out' : List ℕ) : Type 0 where
  pub all : AllSpins b.spins
  pub answer : Answer
  pub bwd : List ℕ
  pub after : Buffers
  pub moved : PermMoved n d s g fwd perms b answer bwd after.spins after.labels after.counts after.sizes
  pub written : WrittenAs (answer_text answer after.labels after.counts after.spins) out w out'

abbrev pub PanelWritten : ℕ → ℕ → ℕ → Group → List ℕ → List ℕ → Buffers → List ℕ → Written → List ℕ → Type 0
PanelWritten n d s g fwd perms b out w out' = NoSpinWritten b.spins out w out' ⊎ MoveWritten n d s g fwd perms b out w out'

-- ---- a text that is spelt well, of spins alone: its move answers it
module _ (text bwd : List ℕ) (k : Kept (spelling_rules text)) (long : length bwd ≡ (frame_lattice text []).n * (frame_lattice text []).d)
    (reversed : Reversed (frame_lattice text []).n (frame_lattice text []).d (frame_lattice text []).fwd bwd)
    (spun : Spins (frame_lattice text []).n (AllSystems (frame_lattice text []).s) (frame_buffers text).spins) where
  inverse : HasBack text → Inverse (frame_lattice text []).n (frame_lattice text []).d (frame_lattice text []).fwd bwd
  inverse h = back_complete text bwd reversed h

  pub moves_answer : (r : Answer) (after : Buffers) → Answers (frame_call text bwd) (frame_choices text) (frame_buffers text) r after
      → FrameAnswers text (answer_text r after.labels after.counts after.spins)
  moves_answer (Refused c) after w = inl (record {
    number = c;
    why = misvalued text c k (values_broken text bwd (spelling_of text k) long spun inverse c w.why);
    written = refl;
  })
  moves_answer Idle after w =
      let v = values_kept text bwd (spelling_of text k) long spun w.valid in
      inr (record {
        valid = all_kept text k v;
        back = record { bwd = bwd; long = long; inverse = inverse v.1.0 };
        answer = Idle;
        after = after;
        accepted = idle;
        answers = w;
        written = refl;
      })
  moves_answer Held after w =
      let v = values_kept text bwd (spelling_of text k) long spun w.valid in
      inr (record {
        valid = all_kept text k v;
        back = record { bwd = bwd; long = long; inverse = inverse v.1.0 };
        answer = Held;
        after = after;
        accepted = held;
        answers = w;
        written = refl;
      })
  moves_answer Moved after w =
      let v = values_kept text bwd (spelling_of text k) long spun w.valid in
      inr (record {
        valid = all_kept text k v;
        back = record { bwd = bwd; long = long; inverse = inverse v.1.0 };
        answer = Moved;
        after = after;
        accepted = moved;
        answers = w;
        written = refl;
      })

-- ---- work arrays for every panel, whose outputs are 0
abbrev pub Zeros : List ℕ → Type 0
Zeros xs = (k : ℕ) → k < length xs → get_or xs k 0 ≡ 0

pub record Blank (bwd labels counts sizes : List ℕ) : Type 0 where
  pub bwd_long : length bwd ≡ 1024
  pub labels_long : length labels ≡ 256
  pub counts_long : length counts ≡ 257
  pub sizes_long : length sizes ≡ 4
  pub labels_zero : Zeros labels
  pub counts_zero : Zeros counts
  pub sizes_zero : Zeros sizes

pub record PanelGiven (z : Sizes) (g : Group) (spins : List ℤ) (fwd perms bwd labels counts sizes : List ℕ) : Type 0 where
  pub n_low : 1 ≤ z.n
  pub n_high : z.n ≤ 256
  pub d_low : 1 ≤ z.d
  pub d_high : z.d ≤ 4
  pub s_high : z.s ≤ 8
  pub size_high : g.len ≤ 8
  pub rooms : AnyPanelFits (length spins) (length fwd) (length perms)
  pub blank : Blank bwd labels counts sizes

-- so it is as it is made
pub made : (m : ℕ) → Zeros (replicate m 0)
made m k l = get_or-replicate m k 0 0 (rw length-replicate at l)

-- the used part of an output
pub zeros_part : (m : ℕ) (xs : List ℕ) → m ≤ length xs → Zeros xs → take m xs ≡ table m (λ k. 0)
unfolding table
zeros_part zero xs l h = refl
zeros_part (suc m) [] l h = absurd (omega arith)
zeros_part (suc m) (x ∷ xs) l h = λ i. h 0 (omega arith) i ∷ zeros_part m xs (omega arith) (λ k s. h (suc k) (omega arith)) i

-- the same on what was read
abbrev pub buffers_read : Sizes → List ℤ → List ℕ → List ℕ → List ℕ → Buffers
buffers_read z spins labels counts sizes = buffers_of (take (z.s * z.n) spins) (take z.n labels) [] (take (z.n + 1) counts) sizes [] (0 ∷ []) []

module _ {text : List ℕ} {b : Lent} {z : Sizes} {g : Group} {a : Lent} (h : Readout text b z g a)
    {bwd labels counts sizes : List ℕ} (k : Blank bwd labels counts sizes) (few : z.n ≤ 256) where
  is_labels : take z.n labels ≡ table z.n (λ k. 0)
  is_labels = zeros_part z.n labels (omega (arith, k.labels_long)) k.labels_zero

  is_counts : take (z.n + 1) counts ≡ table (z.n + 1) (λ k. 0)
  is_counts = zeros_part (z.n + 1) counts (omega (arith, k.counts_long)) k.counts_zero

  is_sizes : sizes ≡ table 4 (λ k. 0)
  is_sizes = sym (take_all 4 sizes (omega (arith, k.sizes_long))) ∙ zeros_part 4 sizes (omega (arith, k.sizes_long)) k.sizes_zero

  -- the test of the spins one by one is the program's rule 3
  all_told : (r : Bool) → Tells r (AllSpins (take (z.s * z.n) a.spins))
      → Tells r (Spins (frame_lattice text []).n (AllSystems (frame_lattice text []).s) (frame_buffers text).spins)
  all_told r t = all_rows (frame_lattice text []).n (frame_lattice text []).s (frame_buffers text).spins long r
      (subst (λ (xs : List ℤ). Tells r (AllSpins xs)) (spins_part h) t)
    where
      long : length (frame_buffers text).spins ≡ (frame_lattice text []).s * (frame_lattice text []).n
      long = spins_count h ∙ ap (λ (y : Sizes). y.s * y.n) h.sizes

  pub panel_answers : {out : List ℕ} {w : Written} {out' : List ℕ}
      → PanelWritten z.n z.d z.s g (take (z.n * z.d) a.fwd) (take (z.n * g.len) a.perms)
      (buffers_read z a.spins labels counts sizes) out w out'
      → RunAs text out w out'
  unfolding table
  panel_answers (inl v) = record {
    answer = refusal 3;
    answers = inl (record { number = 3; why = misvalued text 3 h.spelt (inl (all_told false v.not_all, refl)); written = refl });
    written = v.written;
  }
  panel_answers (inr v) = record {
    answer = answer_text v.answer v.after.labels v.after.counts v.after.spins;
    answers = moves_answer text v.bwd h.spelt moved.long moved.reversed (all_told true v.all) v.answer
        (buffers_of v.after.spins v.after.labels moved.grey v.after.counts v.after.sizes moved.members
        moved.found moved.grey_found) moved.answers;
    written = v.written;
  }
    where
      moved : PermMoved (frame_lattice text []).n (frame_lattice text []).d (frame_lattice text []).s (frame_call text []).group (frame_lattice text []).fwd
          (frame_choices text).choices (frame_buffers text) v.answer v.bwd v.after.spins v.after.labels v.after.counts v.after.sizes
      moved = subst (λ x. x) (λ i. PermMoved (h.sizes i).n (h.sizes i).d (h.sizes i).s (h.group i) (fwd_part h i) (perms_part h i) (buffers i)
          v.answer v.bwd v.after.spins v.after.labels v.after.counts v.after.sizes) v.moved
        where
          buffers : buffers_read z a.spins labels counts sizes ≡ frame_buffers text
          buffers =
              (λ i. buffers_of (spins_part h i) (is_labels i) [] (is_counts i) (is_sizes i) [] (0 ∷ []) [])
              ∙ (λ i. buffers_of (frame_buffers text).spins (table (h.sizes i).n (λ k. 0)) [] (table ((h.sizes i).n + 1) (λ k. 0)) (table 4 (λ k. 0)) []
              (0 ∷ []) [])

-- ---- from what the reading found
pub misread_answers : (text : List ℕ) (b : Lent) (f : Found) (g : Group) (a : Lent) (r : ℕ) {out : List ℕ} {w : Written} {out' : List ℕ}
    → f ≡ Fault r → FoundAs text b f g a → RefusalAs r out w out' → RunAs text out w out'
misread_answers text b f g a r e h v = record {
  answer = refusal r;
  answers = inl (record { number = r; why = misspelt text r found.why; written = refl });
  written = v.two (misspelt_small text r found.why);
}
  where
    found : Misread text b r g a
    found = subst (λ (y : Found). FoundAs text b y g a) e h

pub readout_of : (text : List ℕ) (b : Lent) (f : Found) (g : Group) (a : Lent) (z : Sizes) → f ≡ Panel z → FoundAs text b f g a → Readout text b z g a
readout_of text b f g a z e h = subst (λ (y : Found). FoundAs text b y g a) e h

pub panel_given : {text : List ℕ} {b : Lent} {z : Sizes} {g : Group} {a : Lent} {bwd labels counts sizes : List ℕ} → Readout text b z g a
    → AnyPanelFits (length b.spins) (length b.fwd) (length b.perms) → Blank bwd labels counts sizes
    → PanelGiven z g a.spins a.fwd a.perms bwd labels counts sizes
panel_given {text} {b} {z} {g} h r k = record {
  n_low = rw h.sizes spelling.sizes.n_low;
  n_high = rw h.sizes spelling.sizes.n_high;
  d_low = rw h.sizes spelling.sizes.d_low;
  d_high = rw h.sizes spelling.sizes.d_high;
  s_high = rw h.sizes spelling.sizes.s_high;
  size_high = rw h.group spelling.group_size.high;
  rooms = record {
    spins = rw h.spins (behind (frame_buffers text).spins b.spins (z.s * z.n) (spins_count h) r.spins);
    fwd = rw h.fwd (behind (frame_lattice text []).fwd b.fwd (z.n * z.d) (fwd_count h) r.fwd);
    perms = rw h.perms (behind (frame_choices text).choices b.perms (z.n * g.len) (perms_count h) r.perms);
  };
  blank = k;
}
  where
    behind : {A : Type 0} (xs ys : List A) (k : ℕ) {m : ℕ} → length xs ≡ k → m ≤ length ys → m ≤ length (xs ++ drop k ys)
    behind xs ys k e l = simp (length-append, length-drop) (omega arith)

    spelling : Spelling text
    spelling = spelling_of text h.spelt
