use Rattle.std.proofs.Common.{◌≡◌, ◌∙◌, ◌<◌, ◌≤◌, ◌+◌, ◌-◌, [], ◌∷◌, ◌++◌, List, ℕ, suc, ap, arith, append_assoc, drop, length, length-take-le, slice_index_or, slice_set, subst, sym, take, take_all}
use Rattle.std.proofs.lemmas.Grind.{take-set_at}
use Rattle.std.proofs.lemmas.List.{drop-drop, drop-set-lt, take-append-drop}
use Rattle.std.proofs.Math.ListN.{length-set}
use Rattle.std.proofs.Math.Seq.{drop-append_seam, take-suc}
use Rattle.std.specs.Str.{IsUtf8}
use Rattle.gs_text.proofs.Grown.{both_utf8}
use Rattle.gs_sentences.proofs.backwards.put.Goals as goal

-- one more byte that is written
written_more : (start n : ℕ) (old array bytes : List ℕ) → n < length bytes → start + length bytes ≤ length array → take (start + n) array ≡ take start old ++ take n bytes
    → take (start + (n + 1)) (slice_set array (start + n) (slice_index_or bytes n 0)) ≡ take start old ++ take (n + 1) bytes
written_more start n old array bytes more room front =
    let b : ℕ = slice_index_or bytes n 0 in
    let same : n + 1 ≡ suc n = omega arith in
    let next : take (n + 1) bytes ≡ take n bytes ++ b ∷ [] = ap (λ (k : ℕ). take k bytes) same ∙ take-suc bytes n 0 more in
    take-set_at array (start + n) (start + (n + 1)) b (omega arith) (omega (arith, more, room))
    ∙ (ap (λ (xs : List ℕ). xs ++ b ∷ []) front ∙ (append_assoc (take start old) (take n bytes) (b ∷ []) ∙ ap (λ (xs : List ℕ). take start old ++ xs) (sym next)))

same_behind : (at next b : ℕ) (old array : List ℕ) → next ≡ at + 1 → drop at array ≡ drop at old → drop next (slice_set array at b) ≡ drop next old
same_behind at next b old array is back =
    drop-set-lt next array at b (omega (arith, is))
    ∙ (ap (λ (k : ℕ). drop k array) is ∙ (sym (drop-drop 1 at array) ∙ (ap (drop 1) back ∙ (drop-drop 1 at old ∙ ap (λ (k : ℕ). drop k old) (sym is)))))

pub loop-n-preserved : goal.loop-n-preserved
loop-n-preserved c =
    let bytes : List ℕ = c.as_bytes-bytes.result.now in
    let start : ℕ = c.args.end - length bytes in
    record {
      within = omega arith;
      room = omega (arith, length-set {A = ℕ});
      written = written_more start c.loop-n.n c.args.array.now c.loop-n.array bytes (omega arith) c.loop-n.invariant.room c.loop-n.invariant.written;
      behind = same_behind (start + c.loop-n.n) (start + (c.loop-n.n + 1)) _ c.args.array.now c.loop-n.array (omega arith) c.loop-n.invariant.behind;
    }

-- bytes that were written between the first and the last ones of an array
stands : (start end : ℕ) (old new bytes : List ℕ) → start ≤ length old → take end new ≡ take start old ++ bytes → drop end new ≡ drop end old → drop start new ≡ bytes ++ drop end old
stands start end old new bytes room front back =
    let size : length (take start old) ≡ start = length-take-le start old room in
    let whole : new ≡ take start old ++ (bytes ++ drop end old) = sym (take-append-drop end new) ∙ ((λ i. front i ++ back i) ∙ append_assoc (take start old) bytes (drop end old)) in
    ap (drop start) whole ∙ (ap (λ (n : ℕ). drop n (take start old ++ (bytes ++ drop end old))) (sym size) ∙ drop-append_seam (take start old) (bytes ++ drop end old))

pub returns-clause-written : goal.returns-clause-written
returns-clause-written c =
    let bytes : List ℕ = c.as_bytes-bytes.result.now in
    let start : ℕ = c.args.end - length bytes in
    let done : take c.loop-n.n bytes ≡ c.args.word.now = take_all c.loop-n.n bytes (omega (arith, c.loop-n-test.false)) ∙ c.as_bytes-bytes.ensures.value in
    let here : start + c.loop-n.n ≡ c.args.end = omega arith in
    let front : take c.args.end c.loop-n.array ≡ take start c.args.array.now ++ c.args.word.now = ap (λ (n : ℕ). take n c.loop-n.array) (sym here) ∙ (c.loop-n.invariant.written ∙ ap (λ (xs : List ℕ). take start c.args.array.now ++ xs) done) in
    let back : drop c.args.end c.loop-n.array ≡ drop c.args.end c.args.array.now = ap (λ (n : ℕ). drop n c.loop-n.array) (sym here) ∙ (c.loop-n.invariant.behind ∙ ap (λ (n : ℕ). drop n c.args.array.now) here) in
    stands start c.args.end c.args.array.now c.loop-n.array c.args.word.now (omega arith) front back

pub returns-clause-utf8 : goal.returns-clause-utf8
returns-clause-utf8 c = λ behind. both_utf8 c.args.word.now (drop c.args.end c.args.array.now) _ (returns-clause-written c) behind (subst IsUtf8 c.as_bytes-bytes.ensures.value c.as_bytes-bytes.ensures.utf8)
