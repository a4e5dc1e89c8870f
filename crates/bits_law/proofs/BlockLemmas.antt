-- Blocks, packed and unpacked.
use Rattle.std.proofs.Common.{◌≡◌, Bool, true, false, ℕ, zero, suc, ◌+◌, ◌-◌, ◌*◌, ◌/◌, ◌%◌, ◌^◌, ◌<◌, ◌≤◌, cond, List, [], ◌∷◌, ◌++◌, length, get_or, take, replicate, map, count_ones, refl, ap, sym, ◌∙◌, subst, inl, inr, arith}
use Rattle.std.specs.List.{range_with_len}
use Rattle.std.proofs.lemmas.Bool.{cases_lt}
use Rattle.std.proofs.Math.Nat.{mul-le-mul_right}
use Rattle.std.proofs.lemmas.List.{take_all, length-append, length-map, length-replicate, get_or-map, get_or_push, get_or_past, get_or_append_left, get_or-append_right}
use Rattle.std.proofs.lemmas.List.FromFn.{length-map-range_with_len, get_or-map-range_with_len}
use Rattle.bits_law.specs.declared.head.Head.{Head}
use Rattle.bits_law.specs.Numbers.{has_bit}
use Rattle.bits_law.specs.Blocks.{parts, word_at, waiting}
use Rattle.bits_law.specs.Packed.{no_head, moved, column_word, line_word, unpacked, IsInside, ArePacked, Begins, IsHead, AreHeads, AreAdded, IsStored, AreBehind}
use Rattle.bits_law.proofs.WordBits.{bit-none}
use Rattle.bits_law.proofs.PackLemmas.{begins_get, begins_same, begins_more, column_kept, inside_kept}

no_bit : (c : ℕ) → has_bit 0 c ≡ true → ⊥
no_bit c e = clash e (bit-none c)
  where
    clash : {x : Bool} → x ≡ true → x ≡ false → ⊥
    clash p q = cc

-- what is filled up behind a list is there anyway
module _ {A : Type 0} where
  pub get_filled : (xs : List A) (n i : ℕ) (d : A) → get_or (xs ++ replicate n d) i d ≡ get_or xs i d
  get_filled [] zero i d = refl
  get_filled [] (suc n) zero d = refl
  get_filled [] (suc n) (suc i) d = get_filled [] n i d
  get_filled (x ∷ xs) n zero d = refl
  get_filled (x ∷ xs) n (suc i) d = get_filled xs n i d

  pub resized : (xs new : List A) (n : ℕ) (d : A) → new ≡ take n xs ++ replicate (n - length xs) d → length xs ≤ n → new ≡ xs ++ replicate (n - length xs) d
  resized xs new n d e l = e ∙ ap (λ ys. ys ++ replicate (n - length xs) d) (take_all n xs l)

  pub resized_long : (xs new : List A) (n : ℕ) (d : A) → new ≡ xs ++ replicate (n - length xs) d → length xs ≤ n → length new ≡ n
  resized_long xs new n d e l = ap length e ∙ length-append xs (replicate (n - length xs) d) ∙ omega (arith, l, length-replicate {A = A} (n - length xs) d)

-- a block of keys is added to the lists
pub added_is : (present pushed np words keys : List ℕ) (heads mid nh : List Head) (n taken count : ℕ) → pushed ≡ present ++ taken ∷ [] → np ≡ take count pushed ++ replicate (count - length pushed) 0 → nh ≡ take (count * n) mid ++ replicate (count * n - length mid) no_head → length present < count → length heads ≡ length present * n → AreHeads heads mid words keys n n taken → AreAdded present np heads nh words keys n taken count
added_is present pushed np words keys heads mid nh n taken count push rows more few long are = record {
  blocks = resized_long pushed np count 0 np_is (omega (arith, pushed_long));
  first = ap (λ xs. get_or xs (length present) 0) np_is ∙ get_filled pushed (count - length pushed) (length present) 0 ∙ ap (λ xs. get_or xs (length present) 0) push ∙ get_or_push present taken 0 (length present) refl;
  no_rows = λ block l. ap (λ xs. get_or xs block 0) np_is ∙ get_filled pushed (count - length pushed) block 0 ∙ get_or_past pushed block 0 (omega (arith, pushed_long));
  long = resized_long mid nh (count * n) no_head nh_is mid_short;
  made = λ part l. subst (λ h. IsHead h words (λ i. get_or keys (i * n + part) 0) taken) (sym (head_at (length heads + part))) (are.each part l);
  no_heads = λ k l. head_at k ∙ get_or_past mid k no_head (omega (arith, are.long));
}
  where
    pushed_long : length pushed ≡ length present + 1
    pushed_long = ap length push ∙ length-append present (taken ∷ [])

    np_is : np ≡ pushed ++ replicate (count - length pushed) 0
    np_is = resized pushed np count 0 rows (omega (arith, pushed_long))

    mid_short : length mid ≤ count * n
    mid_short =
        let next : length present + 1 ≤ count = omega arith in
        let all : (length present + 1) * n ≤ count * n = mul-le-mul_right n next in
        omega (arith, are.long, long, all)

    nh_is : nh ≡ mid ++ replicate (count * n - length mid) no_head
    nh_is = resized mid nh (count * n) no_head more mid_short

    head_at : (k : ℕ) → get_or nh k no_head ≡ get_or mid k no_head
    head_at k = ap (λ hs. get_or hs k no_head) nh_is ∙ get_filled mid (count * n - length mid) k no_head

-- the words of packed blocks
module _ (width : ℕ) (present : List ℕ) (heads : List Head) (words : List ℕ) where
  pub blocks_long : length (unpacked width present heads words).blocks ≡ length present
  blocks_long = length-map-range_with_len (λ block. map (line_word (parts width) present heads words block) (range_with_len 0 (width + 1))) 0 (length present)

  pub word_is : (block line : ℕ) → block < length present → line ≤ width → word_at (unpacked width present heads words) block line ≡ line_word (parts width) present heads words block line
  word_is block line l u =
      let at : 0 + block ≡ block = omega arith in
      let to : 0 + line ≡ line = omega arith in
      ap (λ b. get_or b line 0) (get_or-map-range_with_len (λ block. map (line_word (parts width) present heads words block) (range_with_len 0 (width + 1))) 0 (length present) block block [] l at)
      ∙ get_or-map-range_with_len (line_word (parts width) present heads words block) 0 (width + 1) line line 0 (omega arith) to

  pub word_past : (block line : ℕ) → length present ≤ block → word_at (unpacked width present heads words) block line ≡ 0
  word_past block line l = ap (λ b. get_or b line 0) (get_or_past (unpacked width present heads words).blocks block [] (omega (arith, blocks_long)))

  pub word_over : (block line : ℕ) → width < line → word_at (unpacked width present heads words) block line ≡ 0
  word_over block line l = elim (cases_lt block (length present)) [
    | inl less ↦
        let at : 0 + block ≡ block = omega arith in
        ap (λ b. get_or b line 0) (get_or-map-range_with_len (λ block. map (line_word (parts width) present heads words block) (range_with_len 0 (width + 1))) 0 (length present) block block [] less at)
        ∙ get_or_past (map (line_word (parts width) present heads words block) (range_with_len 0 (width + 1))) line 0 (omega (arith, length-map-range_with_len (line_word (parts width) present heads words block) 0 (width + 1)))
    | inr more ↦ word_past block line more
  ]

pub part_of : (width j : ℕ) → j < width → j / 64 < parts width
part_of width j l = omega arith

pub head_inside : (n blocks block part : ℕ) → block < blocks → part < n → block * n + part < blocks * n
head_inside n blocks block part l u =
    let next : block + 1 ≤ blocks = omega arith in
    let all : (block + 1) * n ≤ blocks * n = mul-le-mul_right n next in
    omega (arith, all)

pub no_head_word : (words : List ℕ) (c : ℕ) → column_word 0 words no_head c ≡ 0
no_head_word words c = ap (λ b. cond b (get_or words (0 + count_ones (0 / 2 ^ c / 2)) 0) (cond b 0 0)) (bit-none c)

-- blocks that stood before have the same words
pub old_word : (width : ℕ) (present np : List ℕ) (heads nh : List Head) (words nw : List ℕ) → ArePacked width present heads words → Begins present np → Begins heads nh → Begins words nw → (block line : ℕ) → block < length present → line ≤ width → line_word (parts width) np nh nw block line ≡ line_word (parts width) present heads words block line
old_word width present np heads nh words nw packed rows tops more block zero l u = begins_get present np block 0 rows l
old_word width present np heads nh words nw packed rows tops more block (suc j) l u =
    let k : ℕ = block * parts width + j / 64 in
    let at : k < length heads = omega (arith, packed.long, head_inside (parts width) (length present) block (j / 64) l (part_of width j u)) in
    ap (λ p. column_word p nw (get_or nh k no_head) (63 - j % 64)) (begins_get present np block 0 rows l)
    ∙ ap (λ h. column_word (get_or present block 0) nw h (63 - j % 64)) (begins_get heads nh k no_head tops at)
    ∙ column_kept (get_or present block 0) words nw (get_or heads k no_head) (63 - j % 64) (omega arith) (packed.inside k at) more

module _ (width : ℕ) (present np : List ℕ) (heads nh : List Head) (words nw keys : List ℕ) (taken count : ℕ) (packed : ArePacked width present heads words) (a : AreAdded present np heads nh nw keys (parts width) taken count) (rows : Begins present np) (tops : Begins heads nh) (more : Begins words nw) (few : length present < count) where
  new_word : (line i : ℕ) → line ≤ width → i < 64 → has_bit (line_word (parts width) np nh nw (length present) line) i ≡ waiting keys width taken line i
  new_word zero i u v = ap (λ w. has_bit w i) a.first
  new_word (suc j) i u v =
      let place : length present * parts width + j / 64 ≡ length heads + j / 64 = omega (arith, packed.long) in
      ap (λ p. has_bit (column_word p nw (get_or nh (length present * parts width + j / 64) no_head) (63 - j % 64)) i) a.first
      ∙ ap (λ k. has_bit (column_word taken nw (get_or nh k no_head) (63 - j % 64)) i) place
      ∙ (a.made (j / 64) (part_of width j u)).bits (63 - j % 64) i (omega arith) v

  gap_word : (block line : ℕ) → length present < block → line_word (parts width) np nh nw block line ≡ 0
  gap_word block zero l = a.no_rows block l
  gap_word block (suc j) l =
      let k : ℕ = block * parts width + j / 64 in
      let next : length present + 1 ≤ block = omega arith in
      let all : (length present + 1) * parts width ≤ block * parts width = mul-le-mul_right (parts width) next in
      ap (λ p. column_word p nw (get_or nh k no_head) (63 - j % 64)) (a.no_rows block l)
      ∙ ap (λ h. column_word 0 nw h (63 - j % 64)) (a.no_heads k (omega (arith, packed.long, all)))
      ∙ no_head_word nw (63 - j % 64)

  pub stored_is : IsStored (unpacked width present heads words) (unpacked width np nh nw) keys taken count
  stored_is = record {
    wide = refl;
    long = blocks_long width np nh nw ∙ a.blocks;
    before = λ block line l u.
        let under : block < length present = omega (arith, blocks_long width present heads words) in
        word_is width np nh nw block line (omega (arith, a.blocks)) u ∙ old_word width present np heads nh words nw packed rows tops more block line under u ∙ sym (word_is width present heads words block line under u);
    here = λ line i u v.
        ap (λ b. has_bit (word_at (unpacked width np nh nw) b line) i) (blocks_long width present heads words)
        ∙ ap (λ w. has_bit w i) (word_is width np nh nw (length present) line (omega (arith, a.blocks)) u)
        ∙ new_word line i u v;
    gap = λ block line l.
        let behind : length present < block = omega (arith, blocks_long width present heads words) in
        elim (cases_lt block (length np)) [
          | inl less ↦ elim (cases_lt width line) [
            | inl over ↦ word_over width np nh nw block line over
            | inr within ↦ word_is width np nh nw block line less within ∙ gap_word block line behind
          ]
          | inr past ↦ word_past width np nh nw block line past
        ];
  }

  pub stored_packed : ArePacked width np nh nw
  stored_packed = record {
    narrow = packed.narrow;
    long = a.long ∙ ap (λ k. k * parts width) (sym a.blocks);
    inside = λ k l. elim (cases_lt k (length heads)) [
      | inl old ↦ subst (λ h. IsInside h nw) (sym (begins_get heads nh k no_head tops old)) (inside_kept words nw (get_or heads k no_head) (packed.inside k old) more)
      | inr not_old ↦ elim (cases_lt k (length heads + parts width)) [
        | inl new ↦
            let place : length heads + (k - length heads) ≡ k = omega arith in
            subst (λ k. IsInside (get_or nh k no_head) nw) place (a.made (k - length heads) (omega arith)).inside
        | inr gap ↦ subst (λ h. IsInside h nw) (sym (a.no_heads k gap)) (record { begins = omega arith; kept = λ c l is. absurd (no_bit c is) })
      ]
    ];
  }

-- other blocks are added behind
pub column_moved : (present by : ℕ) (words other : List ℕ) (head : Head) (c : ℕ) → by ≡ length words → column_word present (words ++ other) (moved by head) c ≡ column_word present other head c
column_moved present by words other head c e = ap (λ x. cond (has_bit head.literal c) x (cond (has_bit head.full c) present 0)) (
    get_or-append_right words other (length words) (head.from + by + count_ones (head.own / 2 ^ c / 2)) 0 refl (omega (arith, e))
    ∙ ap (λ k. get_or other k 0) (let back : head.from + by + count_ones (head.own / 2 ^ c / 2) - length words ≡ head.from + count_ones (head.own / 2 ^ c / 2) = omega (arith, e) in back))

pub inside_moved : (by : ℕ) (words other : List ℕ) (head : Head) → by ≡ length words → IsInside head other → IsInside (moved by head) (words ++ other)
inside_moved by words other head is h = record {
  begins = omega (arith, is, h.begins, length-append words other);
  kept = λ c l e. omega (arith, is, h.kept c l e, length-append words other);
}

module _ (width : ℕ) (present op : List ℕ) (heads oh : List Head) (words ow : List ℕ) (by : ℕ) (is : by ≡ length words) (packed : ArePacked width present heads words) (other : ArePacked width op oh ow) where
  abbrev pub moved_heads : List Head
  moved_heads = map (moved by) oh

  head_moved : (k : ℕ) → k < length oh → get_or (heads ++ moved_heads) (length heads + k) no_head ≡ moved by (get_or oh k no_head)
  head_moved k l =
      get_or-append_right heads moved_heads (length heads) (length heads + k) no_head refl (omega arith)
      ∙ ap (λ i. get_or moved_heads i no_head) (let back : length heads + k - length heads ≡ k = omega arith in back)
      ∙ get_or-map (moved by) oh k no_head no_head l

  behind_row : (block : ℕ) → get_or (present ++ op) (length present + block) 0 ≡ get_or op block 0
  behind_row block =
      get_or-append_right present op (length present) (length present + block) 0 refl (omega arith)
      ∙ ap (λ i. get_or op i 0) (let back : length present + block - length present ≡ block = omega arith in back)

  behind_word : (block line : ℕ) → block < length op → line ≤ width → line_word (parts width) (present ++ op) (heads ++ moved_heads) (words ++ ow) (length present + block) line ≡ line_word (parts width) op oh ow block line
  behind_word block zero l u = behind_row block
  behind_word block (suc j) l u =
      let k : ℕ = block * parts width + j / 64 in
      let at : k < length oh = omega (arith, other.long, head_inside (parts width) (length op) block (j / 64) l (part_of width j u)) in
      let place : (length present + block) * parts width + j / 64 ≡ length heads + k = omega (arith, packed.long) in
      ap (λ p. column_word p (words ++ ow) (get_or (heads ++ moved_heads) ((length present + block) * parts width + j / 64) no_head) (63 - j % 64)) (behind_row block)
      ∙ ap (λ i. column_word (get_or op block 0) (words ++ ow) (get_or (heads ++ moved_heads) i no_head) (63 - j % 64)) place
      ∙ ap (λ h. column_word (get_or op block 0) (words ++ ow) h (63 - j % 64)) (head_moved k at)
      ∙ column_moved (get_or op block 0) by words ow (get_or oh k no_head) (63 - j % 64) is

  pub behind_is : AreBehind (unpacked width present heads words) (unpacked width op oh ow) (unpacked width (present ++ op) (heads ++ moved_heads) (words ++ ow))
  behind_is = record {
    wide = refl;
    long = blocks_long width (present ++ op) (heads ++ moved_heads) (words ++ ow) ∙ length-append present op ∙ omega (arith, blocks_long width present heads words, blocks_long width op oh ow);
    before = λ block line l u.
        let under : block < length present = omega (arith, blocks_long width present heads words) in
        word_is width (present ++ op) (heads ++ moved_heads) (words ++ ow) block line (omega (arith, length-append present op)) u
        ∙ old_word width present (present ++ op) heads (heads ++ moved_heads) words (words ++ ow) packed (begins_more present present op (begins_same present)) (begins_more heads heads moved_heads (begins_same heads)) (begins_more words words ow (begins_same words)) block line under u
        ∙ sym (word_is width present heads words block line under u);
    behind = λ block line u.
        ap (λ b. word_at (unpacked width (present ++ op) (heads ++ moved_heads) (words ++ ow)) (b + block) line) (blocks_long width present heads words)
        ∙ elim (cases_lt block (length op)) [
          | inl less ↦
              word_is width (present ++ op) (heads ++ moved_heads) (words ++ ow) (length present + block) line (omega (arith, length-append present op)) u
              ∙ behind_word block line less u ∙ sym (word_is width op oh ow block line less u)
          | inr past ↦
              word_past width (present ++ op) (heads ++ moved_heads) (words ++ ow) (length present + block) line (omega (arith, length-append present op))
              ∙ sym (word_past width op oh ow block line past)
        ];
  }

  pub behind_packed : ArePacked width (present ++ op) (heads ++ moved_heads) (words ++ ow)
  behind_packed = record {
    narrow = packed.narrow;
    long = length-append heads moved_heads ∙ omega (arith, packed.long, other.long, length-map oh (moved by), mul_add) ∙ ap (λ k. k * parts width) (sym (length-append present op));
    inside = λ k l. elim (cases_lt k (length heads)) [
      | inl old ↦ subst (λ h. IsInside h (words ++ ow)) (sym (get_or_append_left heads moved_heads no_head k old)) (inside_kept words (words ++ ow) (get_or heads k no_head) (packed.inside k old) (begins_more words words ow (begins_same words)))
      | inr new ↦
          let place : length heads + (k - length heads) ≡ k = omega arith in
          let under : k - length heads < length oh = omega (arith, length-append heads moved_heads, length-map oh (moved by)) in
          subst (λ i. IsInside (get_or (heads ++ moved_heads) i no_head) (words ++ ow)) place
          (subst (λ h. IsInside h (words ++ ow)) (sym (head_moved (k - length heads) under)) (inside_moved by words ow (get_or oh (k - length heads) no_head) is (other.inside (k - length heads) under)))
    ];
  }
    where
      mul_add : (length present + length op) * parts width ≡ length present * parts width + length op * parts width
      mul_add = omega arith
