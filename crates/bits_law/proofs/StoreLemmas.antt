-- The bits of a store's lines, in its blocks and among the keys that wait.
use Rattle.std.proofs.Common.{◌≡◌, ◌≢◌, ℕ, zero, suc, ◌+◌, ◌-◌, ◌*◌, ◌/◌, ◌%◌, ◌^◌, ◌<◌, ◌≤◌, Bool, true, false, cond, eqb, ◌&&◌, List, length, get_or, refl, ap, sym, ◌∙◌, inl, inr, arith}
use Rattle.std.specs.Prelude.{bit_or}
use Rattle.std.proofs.lemmas.Bool.{cases_eq, cases_lt, lt-ltb, le-ltb, eq-eqb, ne_eqb}
use Rattle.std.proofs.Math.Nat.{mul-le-mul_right}
use Rattle.bits_law.specs.Numbers.{has_bit}
use Rattle.bits_law.specs.Blocks.{Lines, parts, word_at, waiting, bit_at, line_bit, AreSame, IsLaid, IsSet, AreJoined, AreJoinedFor, IsWritten}
use Rattle.bits_law.specs.Packed.{AreBehind}
use Rattle.bits_law.proofs.WordBits.{bit-set_same, bit-set_other}
use Rattle.bits_law.proofs.BlockLemmas.{part_of}

module _ (lines : Lines) (keys : List ℕ) (taken line row : ℕ) where
  pub bit_stored : row / 64 < length lines.blocks → bit_at lines keys taken line row ≡ has_bit (word_at lines (row / 64) line) (row % 64)
  bit_stored l = ap (λ b. cond b (has_bit (word_at lines (row / 64) line) (row % 64)) (eqb (row / 64) (length lines.blocks) && waiting keys lines.width taken line (row % 64))) (lt-ltb (row / 64) (length lines.blocks) l)

  pub bit_waiting : row / 64 ≡ length lines.blocks → bit_at lines keys taken line row ≡ waiting keys lines.width taken line (row % 64)
  bit_waiting e =
      ap (λ b. cond b (has_bit (word_at lines (row / 64) line) (row % 64)) (eqb (row / 64) (length lines.blocks) && waiting keys lines.width taken line (row % 64))) (le-ltb (row / 64) (length lines.blocks) (omega arith))
      ∙ ap (λ b. b && waiting keys lines.width taken line (row % 64)) (eq-eqb (row / 64) (length lines.blocks) e)

  pub bit_past : length lines.blocks < row / 64 → bit_at lines keys taken line row ≡ false
  bit_past l =
      ap (λ b. cond b (has_bit (word_at lines (row / 64) line) (row % 64)) (eqb (row / 64) (length lines.blocks) && waiting keys lines.width taken line (row % 64))) (le-ltb (row / 64) (length lines.blocks) (omega arith))
      ∙ ap (λ b. b && waiting keys lines.width taken line (row % 64)) (ne_eqb (row / 64) (length lines.blocks) (omega arith))

-- a key that waits
pub bit_key : (lines : Lines) (keys : List ℕ) (taken j line row : ℕ) → line ≡ suc j → row / 64 ≡ length lines.blocks → has_bit taken (row % 64) ≡ true → bit_at lines keys taken line row ≡ has_bit (get_or keys (row % 64 * parts lines.width + j / 64) 0) (63 - j % 64)
bit_key lines keys taken j line row is e t =
    ap (λ l. bit_at lines keys taken l row) is ∙ bit_waiting lines keys taken (suc j) row e ∙ ap (λ b. b && has_bit (get_or keys (row % 64 * parts lines.width + j / 64) 0) (63 - j % 64)) t

-- a key is written
module _ (lines : Lines) (keys new : List ℕ) (taken row : ℕ) (bit : ℕ → Bool) (here : row / 64 ≡ length lines.blocks) (w : IsWritten keys new (parts lines.width) (row % 64) (parts lines.width) bit) where
  marked : ℕ
  marked = bit_or taken (1 * 2 ^ (row % 64) % 2 ^ 64)

  at_row : (line : ℕ) → line ≤ lines.width → waiting new lines.width (bit_or taken (1 * 2 ^ (row % 64) % 2 ^ 64)) line (row % 64) ≡ line_bit bit line
  at_row zero l = bit-set_same taken (row % 64) (omega arith)
  at_row (suc j) l =
      let back : 64 * (j / 64) + j % 64 ≡ j = omega arith in
      ap (λ b. b && has_bit (get_or new (row % 64 * parts lines.width + j / 64) 0) (63 - j % 64)) (bit-set_same taken (row % 64) (omega arith))
      ∙ w.here (j / 64) (j % 64) (part_of lines.width j l) (omega arith) ∙ ap bit back

  away : (i part : ℕ) → i ≢ row % 64 → part < parts lines.width → get_or new (i * parts lines.width + part) 0 ≡ get_or keys (i * parts lines.width + part) 0
  away i part ne l = elim (cases_lt i (row % 64)) [
    | inl less ↦
        let next : i + 1 ≤ row % 64 = omega arith in
        let all : (i + 1) * parts lines.width ≤ row % 64 * parts lines.width = mul-le-mul_right (parts lines.width) next in
        w.before (i * parts lines.width + part) (omega (arith, all))
    | inr more ↦
        let next : row % 64 + 1 ≤ i = omega arith in
        let all : (row % 64 + 1) * parts lines.width ≤ i * parts lines.width = mul-le-mul_right (parts lines.width) next in
        w.after (i * parts lines.width + part) (omega (arith, all))
  ]

  at_other : (line i : ℕ) → line ≤ lines.width → i ≢ row % 64 → waiting new lines.width (bit_or taken (1 * 2 ^ (row % 64) % 2 ^ 64)) line i ≡ waiting keys lines.width taken line i
  at_other zero i l ne = bit-set_other taken (row % 64) i (omega arith) ne
  at_other (suc j) i l ne =
      ap (λ b. b && has_bit (get_or new (i * parts lines.width + j / 64) 0) (63 - j % 64)) (bit-set_other taken (row % 64) i (omega arith) ne)
      ∙ ap (λ x. has_bit taken i && has_bit x (63 - j % 64)) (away i (j / 64) ne (part_of lines.width j l))

  pub placed_is : IsSet (bit_at lines keys taken) (bit_at lines new (bit_or taken (1 * 2 ^ (row % 64) % 2 ^ 64))) lines.width row bit
  placed_is = record {
    here = λ line l. bit_waiting lines new (bit_or taken (1 * 2 ^ (row % 64) % 2 ^ 64)) line row here ∙ at_row line l;
    other = λ line r l ne. elim (cases_lt (r / 64) (length lines.blocks)) [
      | inl stored ↦ bit_stored lines new (bit_or taken (1 * 2 ^ (row % 64) % 2 ^ 64)) line r stored ∙ sym (bit_stored lines keys taken line r stored)
      | inr behind ↦ elim (cases_eq (r / 64) (length lines.blocks)) [
        | inl same ↦
            let apart : r % 64 ≢ row % 64 = λ e. ne (omega arith) in
            bit_waiting lines new (bit_or taken (1 * 2 ^ (row % 64) % 2 ^ 64)) line r same ∙ at_other line (r % 64) l apart ∙ sym (bit_waiting lines keys taken line r same)
        | inr past ↦
            bit_past lines new (bit_or taken (1 * 2 ^ (row % 64) % 2 ^ 64)) line r (omega arith) ∙ sym (bit_past lines keys taken line r (omega arith))
      ]
    ];
  }

-- the rows of another store go on behind whole blocks
pub appended_is : (old other new : Lines) (keys more : List ℕ) (taken others : ℕ) → other.width ≡ old.width → AreBehind old other new → AreJoined (bit_at old keys taken) (bit_at other more others) (bit_at new more others) old.width (64 * length old.blocks)
appended_is old other new keys more taken others wide b = record {
  before = λ line row l u.
      let less : row / 64 < length old.blocks = omega arith in
      bit_stored new more others line row (omega (arith, b.long)) ∙ ap (λ w. has_bit w (row % 64)) (b.before (row / 64) line less l) ∙ sym (bit_stored old keys taken line row less);
  behind = λ line row l.
      let block : (64 * length old.blocks + row) / 64 ≡ length old.blocks + row / 64 = omega arith in
      let at : (64 * length old.blocks + row) % 64 ≡ row % 64 = omega arith in
      elim (cases_lt (row / 64) (length other.blocks)) [
        | inl stored ↦
            bit_stored new more others line (64 * length old.blocks + row) (omega (arith, b.long, block))
            ∙ ap (λ k. has_bit (word_at new k line) ((64 * length old.blocks + row) % 64)) block
            ∙ ap (λ k. has_bit (word_at new (length old.blocks + row / 64) line) k) at
            ∙ ap (λ w. has_bit w (row % 64)) (b.behind (row / 64) line l)
            ∙ sym (bit_stored other more others line row stored)
        | inr behind ↦ elim (cases_eq (row / 64) (length other.blocks)) [
          | inl same ↦
              bit_waiting new more others line (64 * length old.blocks + row) (omega (arith, b.long, block, same))
              ∙ ap (λ k. waiting more new.width others line k) at
              ∙ ap (λ n. waiting more n others line (row % 64)) (b.wide ∙ sym wide)
              ∙ sym (bit_waiting other more others line row same)
          | inr past ↦
              bit_past new more others line (64 * length old.blocks + row) (omega (arith, b.long, block)) ∙ sym (bit_past other more others line row (omega arith))
        ]
      ];
}

-- rows are put behind one by one
module _ (old other mid new : ℕ → ℕ → Bool) (width rows k : ℕ) (j : AreJoinedFor old other mid width rows k) where
  pub rows_put : (bit : ℕ → Bool) → IsSet mid new width (rows + k) bit → other 0 k ≡ true → ((i : ℕ) → i < width → bit i ≡ other (i + 1) k) → AreJoinedFor old other new width rows (k + 1)
  rows_put bit set here same = record {
    before = λ line row l u. set.other line row l (omega arith) ∙ j.before line row l u;
    behind = λ line row l u. elim (cases_eq row k) [
      | inl e ↦ ap (λ r. new line (rows + r)) e ∙ set.here line l ∙ key_is line l ∙ ap (other line) (sym e)
      | inr ne ↦ set.other line (rows + row) l (omega arith) ∙ j.behind line row l (omega arith)
    ];
    clear = λ line row l u. set.other line (rows + row) l (omega arith) ∙ j.clear line row l (omega arith);
  }
    where
      key_is : (line : ℕ) → line ≤ width → line_bit bit line ≡ other line k
      key_is zero l = sym here
      key_is (suc i) l = let next : i + 1 ≡ suc i = omega arith in same i (omega arith) ∙ ap (λ n. other n k) next

  pub rows_gap : ((line : ℕ) → line ≤ width → other line k ≡ false) → AreJoinedFor old other mid width rows (k + 1)
  rows_gap none = record {
    before = j.before;
    behind = λ line row l u. elim (cases_eq row k) [
      | inl e ↦ j.clear line row l (omega arith) ∙ sym (ap (other line) e ∙ none line l)
      | inr ne ↦ j.behind line row l (omega arith)
    ];
    clear = λ line row l u. j.clear line row l (omega arith);
  }

pub rows_none : (old other : ℕ → ℕ → Bool) (width rows : ℕ) → ((line row : ℕ) → line ≤ width → rows ≤ row → old line row ≡ false) → AreJoinedFor old other old width rows 0
rows_none old other width rows clear = record {
  before = λ line row l u. refl;
  behind = λ line row l u. absurd (omega arith);
  clear = λ line row l u. clear line (rows + row) l (omega arith);
}

pub rows_all : (old other new : ℕ → ℕ → Bool) (width rows more : ℕ) → ((line row : ℕ) → line ≤ width → more ≤ row → other line row ≡ false) → AreJoinedFor old other new width rows more → AreJoined old other new width rows
rows_all old other new width rows more clear j = record {
  before = j.before;
  behind = λ line row l. elim (cases_lt row more) [
    | inl less ↦ j.behind line row l less
    | inr past ↦ j.clear line row l past ∙ sym (clear line row l past)
  ];
}

pub joined_from : (old mid other new : ℕ → ℕ → Bool) (width rows : ℕ) → AreSame old mid width → AreJoined mid other new width rows → AreJoined old other new width rows
joined_from old mid other new width rows same j = record { before = λ line row l u. j.before line row l u ∙ same line row l; behind = j.behind }

pub joined_to : (old other mid new : ℕ → ℕ → Bool) (width rows : ℕ) → AreSame mid new width → AreJoined old other mid width rows → AreJoined old other new width rows
joined_to old other mid new width rows same j = record { before = λ line row l u. same line row l ∙ j.before line row l u; behind = λ line row l. same line (rows + row) l ∙ j.behind line row l }

pub laid_joined : (old other new : ℕ → ℕ → Bool) (width rows more count a b : ℕ) → IsLaid old width rows a → IsLaid other width more b → rows + more ≤ 2 ^ 40 → 64 * count ≤ rows + more → rows + more ≤ 64 * count + 64 → AreJoined old other new width rows → IsLaid new width (rows + more) count
laid_joined old other new width rows more count a b laid others short behind near j = record {
  clear = λ line row l u.
      let back : rows + (row - rows) ≡ row = omega arith in
      ap (new line) (sym back) ∙ j.behind line (row - rows) l ∙ others.clear line (row - rows) l (omega arith);
  within = λ line row l e. elim (cases_lt row rows) [
    | inl less ↦ j.before line row l less ∙ laid.within line row l (sym (j.before 0 row (omega arith) less) ∙ e)
    | inr past ↦
        let back : rows + (row - rows) ≡ row = omega arith in
        ap (new line) (sym back) ∙ j.behind line (row - rows) l ∙ others.within line (row - rows) l (sym (j.behind 0 (row - rows) (omega arith)) ∙ ap (new 0) back ∙ e)
  ];
  short = short;
  behind = behind;
  near = near;
}

pub laid_set : (old new : ℕ → ℕ → Bool) (width rows row count a : ℕ) (bit : ℕ → Bool) → rows ≤ row → row < 2 ^ 40 → 64 * count ≤ row + 1 → row < 64 * count + 64 → IsSet old new width row bit → IsLaid old width rows a → IsLaid new width (row + 1) count
laid_set old new width rows row count a bit after short behind near set laid = record {
  clear = λ line r l u. set.other line r l (omega arith) ∙ laid.clear line r l (omega arith);
  within = λ line r l e. elim (cases_eq r row) [
    | inl same ↦ absurd (clash (sym (ap (new 0) same ∙ set.here 0 (omega arith)) ∙ e))
    | inr ne ↦ set.other line r l ne ∙ laid.within line r l (sym (set.other 0 r (omega arith) ne) ∙ e)
  ];
  short = omega arith;
  behind = behind;
  near = omega arith;
}
  where
    clash : true ≡ false → ⊥
    clash p = cc

pub laid_same : (old new : ℕ → ℕ → Bool) (width rows to count a : ℕ) → rows ≤ to → to ≤ 2 ^ 40 → 64 * count ≤ to → to ≤ 64 * count + 64 → AreSame old new width → IsLaid old width rows a → IsLaid new width to count
laid_same old new width rows to count a more short behind near same laid = record {
  clear = λ line row l u. same line row l ∙ laid.clear line row l (omega arith);
  within = λ line row l e. same line row l ∙ laid.within line row l (sym (same 0 row (omega arith)) ∙ e);
  short = short;
  behind = behind;
  near = near;
}
