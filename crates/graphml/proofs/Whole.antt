-- The whole file, with its frame.
use Rattle.std.proofs.Common.{◌≡◌, ℕ, ◌+◌, ◌-◌, ◌^◌, ◌<◌, ◌≤◌, Bool, true, cond, leb, List, ◌++◌, length, take, drop, Some, Option, Ok, Err, Result, sym, refl, ap, ◌∙◌, subst, subst₂, zero-add, arith, length-append, le-leb, leb-true}
use Rattle.std.specs.List.{flat_map, All}
use Rattle.std.proofs.lemmas.List.{take_at, length-map}
use Rattle.protocol.specs.declared.happening.Happening.{Happening}
use Rattle.protocol.specs.Beats.{edges}
use Rattle.text.specs.Bytes.{with_text_at}
use Rattle.text.proofs.Placed.{reached}
use Rattle.graphml.specs.declared.answer.Exported.{Exported}
use Rattle.graphml.specs.declared.answer.Refusal.{Refusal}
use Rattle.graphml.specs.declared.answer.Refusal.TheVariants.{ShortOutput}
use Rattle.graphml.specs.Texts.{head, tail}
use Rattle.graphml.specs.Body.{body}
use Rattle.graphml.specs.Counts.{is_happening, is_edge}
use Rattle.graphml.specs.Numbers.{Fits}
use Rattle.markup.specs.Closing.{Closes}
use Rattle.graphml.specs.Reading.{Item, items_read, happening_of, place_of, places_read, edge_of, edges_read, parties_read}
use Rattle.protocol.specs.Order.{OwnedUpTo}
use Rattle.graphml.specs.Log.{items_of, occurrences, HasBothEnds, all_read, ShowsTheLog}
use Rattle.graphml.specs.Answer.{in_frame, part, over, run_bytes, summary, run_answer}
use Rattle.graphml.specs.Writer.{Writer, after_text, after_fitting}
use Rattle.graphml.proofs.Shapes.{in_run, kept_shaped, body_shaped}
use Rattle.graphml.proofs.Growing.{Framed}
use Rattle.graphml.proofs.Told.{things, frame_told, all_counted, edges_counted, first_taken}
use Rattle.graphml.proofs.Once.{places_once, places_once_at_most, fewer, ends_found}
use Rattle.graphml.proofs.Found.{part_closes, body_framed, body_is, edges_found, happenings_found, parties_found, keys_found, graphs_found}
use Rattle.markup.proofs.Kept.{fitting_part_le, fitting_part_whole, length_render, fitting_part_each}
use Rattle.markup.specs.Cut.{all_fits}
use Rattle.markup.specs.Forests.{Forest, render, count, Each}
use Rattle.graphml.specs.Elements.{Tag, spelling}

pub length_head : length head ≡ 255
unfolding head
length_head = refl

-- the writer before the first byte
abbrev pub empty : ℕ → List ℕ → Writer
empty lent out = record { out = record { lent = lent; bytes = out; at = 0; room = length out - 275 }; happenings = 0; edges = 0 }

module _ (out : List ℕ) (log : List Happening) (n : ℕ) (h : 275 ≤ length out) where
  abbrev fit : Forest Tag
  fit = part log n (length out)

  abbrev text : List ℕ
  text = in_frame fit

  pub record Finished (lent : ℕ) (s : Writer) : Type 0 where
    pub bytes : s.out.bytes ≡ over text out
    pub at : s.out.at ≡ length text
    pub happenings : s.happenings ≡ count is_happening fit
    pub edges : s.edges ≡ count is_edge fit
    pub same : s.out.lent ≡ lent

  pub finished : {lent : ℕ} {s t u : Writer} → s ≡ after_text (empty lent out) head → t ≡ after_fitting s (body log n) → u ≡ after_text t tail → Finished lent u
  finished {lent} {s} {t} {u} p q r =
      let lh = length_head in
      let lp = length_render spelling fit in
      let le = fitting_part_le spelling (length out - 275) (body log n) in
      let l1 = length-append head (render spelling fit) in
      let r1 = reached out 0 head (with_text_at out 0 head) (0 + length head) (render spelling fit) (omega arith) (refl, refl) in
      let r2 = reached out 0 (head ++ render spelling fit) _ _ tail (omega arith) r1 in
      subst (Finished lent) (sym (r ∙ ap (λ x. after_text x tail) (q ∙ ap (λ x. after_fitting x (body log n)) p))) (record {
        bytes = r2.0 ∙ ap (λ k. text ++ drop k out) (zero-add (length text));
        at = r2.1 ∙ zero-add (length text);
        happenings = zero-add _;
        edges = zero-add _;
        same = refl;
      })

  enough : leb 275 (length out) ≡ true
  enough = le-leb 275 (length out) h

  abbrev done : Result Exported Refusal
  done = Ok (summary fit (all_fits spelling (length out - 275) (body log n)))

  pub answered : {lent : ℕ} {s u : Writer} {r : Bool} → s ≡ after_text (empty lent out) head → r ≡ all_fits spelling s.out.room (body log n) → Finished lent u → ◌≡◌ {A = Result Exported Refusal} (Ok (record { bytes = u.out.at; happenings = u.happenings; edges = u.edges; whole = r })) (run_answer log n (length out))
  answered p w f =
      let all = w ∙ ap (λ x. all_fits spelling x.out.room (body log n)) p in
      ◌∙◌ {b = done} (λ i. Ok (record { bytes = f.at i; happenings = f.happenings i; edges = f.edges i; whole = all i }))
      (sym (ap (λ b. cond b done (Err ShortOutput)) enough))

  pub left_as_written : {out' : List ℕ} → out' ≡ over text out → out' ≡ run_bytes log n out
  left_as_written e = e ∙ sym (ap (λ b. cond b (over text out) out) enough)

  -- the bytes that were written
  front : {out' : List ℕ} {k : ℕ} → out' ≡ over text out → k ≡ length text → take k out' ≡ text
  front e f = (λ i. take (f i) (e i)) ∙ take_at text (drop (length text) out) (length text) refl

  pub closes : {out' : List ℕ} {k : ℕ} → out' ≡ over text out → k ≡ length text → Closes (take k out')
  closes e f = subst Closes (sym (front e f)) (part_closes log n (length out - 275))

  abbrev whole : Bool
  whole = all_fits spelling (length out - 275) (body log n)

  -- all of it was written
  all_kept : whole ≡ true → fit ≡ body log n
  all_kept w = fitting_part_whole spelling (length out - 275) (body log n) (leb-true _ _ w)

  pub whole_text : {out' : List ℕ} {k : ℕ} → whole ≡ true → out' ≡ over text out → k ≡ length text → take k out' ≡ in_frame (body log n)
  whole_text w e f = front e f ∙ ap in_frame (all_kept w)

  -- where the numbers written are numbers of 64 bits
  module _ (small : n < 2 ^ 64) (fits : Each Fits fit) where
    told : items_read text ≡ all_read (things 0 fit)
    told =
        frame_told fit (fitting_part_each spelling Framed (length out - 275) (body log n) (body_framed log n)) (kept_shaped in_run (length out - 275) (body log n) (body_shaped log n)) fits

    first : things 0 fit ≡ take (count is_happening fit + count is_edge fit) (items_of n log)
    first = first_taken 0 (length out - 275) (body log n) ∙ (λ i. take (all_counted 0 fit i) (body_is log n i))

    all_told : whole ≡ true → items_read text ≡ all_read (items_of n log)
    all_told w = told ∙ ap all_read (ap (things 0) (all_kept w) ∙ body_is log n)

    all_edges : whole ≡ true → edges_read text ≡ all_read (edges 0 log)
    all_edges w = ap (flat_map edge_of) (all_told w) ∙ edges_found n log

    once_each : whole ≡ true → OwnedUpTo n log → (k : ℕ) → k < length log → occurrences k (places_read text) ≡ 1
    once_each w within k here = ap (λ (l : List (Option Item)). occurrences k (flat_map place_of l)) (all_told w) ∙ places_once n log within k here

    -- of the answer to it
    shown_text : ShowsTheLog n log (summary fit whole) text
    shown_text = record {
      first_part = told ∙ ap all_read first;
      all_counted = ap (λ (l : List (Option Item)). length l) told ∙ length-map (things 0 fit) (λ x. Some x) ∙ all_counted 0 fit;
      edges_counted = ap (λ (l : List (Option Item)). length (flat_map edge_of l)) told ∙ edges_counted 0 fit;
      keys = keys_found fit (fitting_part_each spelling Framed (length out - 275) (body log n) (body_framed log n));
      one_graph = graphs_found fit (fitting_part_each spelling Framed (length out - 275) (body log n) (body_framed log n));
      no_place_twice = λ k.
          let few = ap (λ (l : List (Option Item)). occurrences k (flat_map place_of l)) (told ∙ ap all_read first) in
          let part = fewer k (count is_happening fit + count is_edge fit) (items_of n log) in
          let all = places_once_at_most n log k in
          omega arith;
      parties = λ w. ap (λ g. parties_read (in_frame g)) (all_kept w) ∙ parties_found log n small;
      happenings = λ w i h. ap (flat_map (happening_of i)) (all_told w) ∙ happenings_found n log i h;
      edges = all_edges;
      no_others = all_told;
      each_place_once = once_each;
      edges_have_both_ends = λ w within linked. subst (All (HasBothEnds text)) (sym (all_edges w)) (ends_found text log (once_each w within) n linked);
    }

    pub shown : {out' : List ℕ} {lent : ℕ} {u : Writer} {r : Bool} → out' ≡ over text out → Finished lent u → r ≡ whole →
        ShowsTheLog n log (record { bytes = u.out.at; happenings = u.happenings; edges = u.edges; whole = r }) (take u.out.at out')
    shown {out'} {lent} {u} {r} e f w =
        subst₂ (ShowsTheLog n log) (sym (λ i. record { bytes = f.at i; happenings = f.happenings i; edges = f.edges i; whole = w i })) (sym (front e f.at)) shown_text
