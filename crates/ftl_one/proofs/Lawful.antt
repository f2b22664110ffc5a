-- What the layer keeps true, as blocks are opened, written, closed and collected.
use Rattle.std.proofs.Common.{◌≡◌, ◌≢◌, inl, inr, ℕ, ◌+◌, ◌<◌, ◌≤◌, Bool, true, false, cond, Option, None, Some, sym, ap, ◌∙◌, refl, arith}
use Rattle.std.proofs.lemmas.Bool.{cases_eq, cases_lt}
use Rattle.ftl_one.specs.{declared.role.Role.Role, Lawful.IsLawful, Lawful.KnowsSpare, Lawful.has_pages, Stock.is_retired}
use Rattle.ftl_one.specs.declared.role.Role.TheVariants.{Free, Open, Closed, Spare, Retired}

some_same : (b c : ℕ) → Some b ≡ Some c → b ≡ c
some_same b c h = cc

none_some : (o : Option ℕ) (b : ℕ) → o ≡ None → o ≡ Some b → ⊥
none_some o b h k = cc

-- what is left once four roles are excluded
pub closed_else : (r : Role) → r ≢ Free → r ≢ Open → r ≢ Spare → r ≢ Retired → r ≡ Closed
closed_else Free a b c d = absurd (a refl)
closed_else Open a b c d = absurd (b refl)
closed_else Closed a b c d = refl
closed_else Spare a b c d = absurd (c refl)
closed_else Retired a b c d = absurd (d refl)

pub open≢closed : (r : Role) → r ≡ Open → r ≡ Closed → ⊥
open≢closed r h k = cc

pub open≢spare : (r : Role) → r ≡ Open → r ≡ Spare → ⊥
open≢spare r h k = cc

pub open≢retired : (r : Role) → r ≡ Open → r ≡ Retired → ⊥
open≢retired r h k = cc

pub free≢spare : (r : Role) → r ≡ Free → r ≡ Spare → ⊥
free≢spare r h k = cc

pub closed≢spare : (r : Role) → r ≡ Closed → r ≡ Spare → ⊥
closed≢spare r h k = cc

pub closed≢retired : (r : Role) → r ≡ Closed → r ≡ Retired → ⊥
closed≢retired r h k = cc

pub spare≢retired : (r : Role) → r ≡ Spare → r ≡ Retired → ⊥
spare≢retired r h k = cc

-- the spare is the one that it was, where another block gets a role that isn't the spare's
pub spare-kept : (role role' : ℕ → Role) (spare : Option ℕ) (b : ℕ) → KnowsSpare role spare → role b ≢ Spare → role' b ≢ Spare
    → ((c : ℕ) → c ≢ b → role' c ≡ role c) → KnowsSpare role' spare
spare-kept role role' spare b knows old new there =
    record {
      spare_is = λ c is. elim (cases_eq c b) [
        | inl e ↦ absurd (new (sym (ap role' e) ∙ is))
        | inr apart ↦ knows.spare_is c (sym (there c apart) ∙ is)
      ];
      spare_at = λ c e. let is = knows.spare_at c e in elim (cases_eq c b) [
        | inl same ↦ absurd (old (sym (ap role same) ∙ is))
        | inr apart ↦ there c apart ∙ is
      ];
    }

module _ (count pages : ℕ) (size : ℕ → ℕ) (retired : ℕ → Bool) (role : ℕ → Role) (open_block : Option ℕ)
    (law : IsLawful count pages size retired role open_block) where
  -- a block that isn't retired is one of the device's
  pub inside : (b : ℕ) → role b ≢ Retired → b < count
  inside b used = elim (cases_lt b count) [ inl low ↦ low | inr past ↦ absurd (used (law.outside b past)) ]

  -- nothing that counts has changed
  pub lawful-same : (size' : ℕ → ℕ) (retired' : ℕ → Bool) → ((b : ℕ) → b < count → size' b ≡ size b) → ((b : ℕ) → b < count → retired' b ≡ retired b)
      → IsLawful count pages size' retired' role open_block
  lawful-same size' retired' same kept =
      record {
        open_is = law.open_is;
        open_at = law.open_at;
        room = λ b is. omega (arith, same b (inside b (open≢retired (role b) is)), law.room b is);
        full = λ b is. same b (inside b (closed≢retired (role b) is)) ∙ law.full b is;
        unused = λ b low off. same b low ∙ law.unused b low off;
        usable = λ b low. kept b low ∙ law.usable b low;
        one_spare = law.one_spare;
        spare_last = law.spare_last;
        outside = law.outside;
      }

  -- a free block is opened
  pub lawful-open : (role' : ℕ → Role) (b : ℕ) → 1 ≤ pages → b < count → open_block ≡ None → role b ≡ Free → role' b ≡ Open
      → ((c : ℕ) → c ≢ b → role' c ≡ role c) → IsLawful count pages size retired role' (Some b)
  lawful-open role' b some low none free here there =
      record {
        open_is = λ c is. elim (cases_eq c b) [
          | inl e ↦ ap Some (sym e)
          | inr apart ↦
              absurd (none_some open_block c none (law.open_is c (sym (there c apart) ∙ is)))
        ];
        open_at = λ c e. ap role' (sym (some_same b c e)) ∙ here;
        room = λ c is. elim (cases_eq c b) [
          | inl e ↦ omega (arith, ap size e, law.unused b low (ap has_pages free), some)
          | inr apart ↦ law.room c (sym (there c apart) ∙ is)
        ];
        full = λ c is. elim (cases_eq c b) [
          | inl e ↦ absurd (open≢closed (role' c) (ap role' e ∙ here) is)
          | inr apart ↦ law.full c (sym (there c apart) ∙ is)
        ];
        unused = λ c within off. elim (cases_eq c b) [
          | inl e ↦ ap size e ∙ law.unused b low (ap has_pages free)
          | inr apart ↦ law.unused c within (ap has_pages (sym (there c apart)) ∙ off)
        ];
        usable = λ c within. elim (cases_eq c b) [
          | inl e ↦ law.usable c within
              ∙ (ap (λ (k : ℕ). is_retired (role k)) e ∙ (ap is_retired free ∙ (ap is_retired (sym here) ∙ ap (λ (k : ℕ). is_retired (role' k)) (sym e))))
          | inr apart ↦ law.usable c within ∙ ap is_retired (sym (there c apart))
        ];
        one_spare = λ c d first second. law.one_spare c d (spare_before c first) (spare_before d second);
        spare_last = λ c d within first second. law.spare_last c d within (spare_before c first) (retired_before d second);
        outside = λ c past. elim (cases_eq c b) [ inl e ↦ absurd (omega (arith, low, e)) | inr apart ↦ there c apart ∙ law.outside c past ];
      }
    where
      spare_before : (c : ℕ) → role' c ≡ Spare → role c ≡ Spare
      spare_before c is = elim (cases_eq c b) [ inl e ↦ absurd (open≢spare (role' c) (ap role' e ∙ here) is) | inr apart ↦ sym (there c apart) ∙ is ]

      retired_before : (c : ℕ) → role' c ≡ Retired → role c ≡ Retired
      retired_before c is = elim (cases_eq c b) [ inl e ↦ absurd (open≢retired (role' c) (ap role' e ∙ here) is) | inr apart ↦ sym (there c apart) ∙ is ]

  -- the open block has one more page, and still room
  pub lawful-put : (size' : ℕ → ℕ) (retired' : ℕ → Bool) (b : ℕ) → role b ≡ Open → size' b ≡ size b + 1 → size b + 1 < pages
      → ((c : ℕ) → c < count → c ≢ b → size' c ≡ size c) → ((c : ℕ) → c < count → retired' c ≡ retired c) → IsLawful count pages size' retired' role open_block
  lawful-put size' retired' b is_open one room there kept =
      record {
        open_is = law.open_is;
        open_at = law.open_at;
        room = λ c is. elim (cases_eq c b) [
          | inl e ↦ omega (arith, ap size' e, one, room)
          | inr apart ↦ omega (arith, there c (inside c (open≢retired (role c) is)) apart, law.room c is)
        ];
        full = λ c is. elim (cases_eq c b) [
          | inl e ↦ absurd (open≢closed (role c) (ap role e ∙ is_open) is)
          | inr apart ↦ there c (inside c (closed≢retired (role c) is)) apart ∙ law.full c is
        ];
        unused = λ c within off. elim (cases_eq c b) [
          | inl e ↦ absurd (on_off (has_pages (role c)) (ap (λ (k : ℕ). has_pages (role k)) e ∙ ap has_pages is_open) off)
          | inr apart ↦ there c within apart ∙ law.unused c within off
        ];
        usable = λ c within. kept c within ∙ law.usable c within;
        one_spare = law.one_spare;
        spare_last = law.spare_last;
        outside = law.outside;
      }
    where
      on_off : (t : Bool) → t ≡ true → t ≡ false → ⊥
      on_off t h k = cc

  -- the open block has its last page, and is closed
  pub lawful-close : (size' : ℕ → ℕ) (retired' : ℕ → Bool) (role' : ℕ → Role) (b : ℕ) → role b ≡ Open → size' b ≡ pages
      → ((c : ℕ) → c < count → c ≢ b → size' c ≡ size c) → ((c : ℕ) → c < count → retired' c ≡ retired c) → role' b ≡ Closed
      → ((c : ℕ) → c ≢ b → role' c ≡ role c) → IsLawful count pages size' retired' role' None
  lawful-close size' retired' role' b is_open last there kept here others =
      let b_in = inside b (open≢retired (role b) is_open) in
      let was = law.open_is b is_open in
      record {
        open_is = λ c is. elim (cases_eq c b) [
          | inl e ↦ absurd (open≢closed (role' c) is (ap role' e ∙ here))
          | inr apart ↦ absurd (apart (sym (some_same b c (sym was ∙ law.open_is c (sym (others c apart) ∙ is)))))
        ];
        open_at = λ c e. absurd (none_some None c refl e);
        room = λ c is. elim (cases_eq c b) [
          | inl e ↦ absurd (open≢closed (role' c) is (ap role' e ∙ here))
          | inr apart ↦ let old = sym (others c apart) ∙ is in omega (arith, there c (inside c (open≢retired (role c) old)) apart, law.room c old)
        ];
        full = λ c is. elim (cases_eq c b) [
          | inl e ↦ ap size' e ∙ last
          | inr apart ↦ let old = sym (others c apart) ∙ is in there c (inside c (closed≢retired (role c) old)) apart ∙ law.full c old
        ];
        unused = λ c within off. elim (cases_eq c b) [
          | inl e ↦ absurd (on_off (has_pages (role' c)) (ap (λ (k : ℕ). has_pages (role' k)) e ∙ ap has_pages here) off)
          | inr apart ↦ there c within apart ∙ law.unused c within (ap has_pages (sym (others c apart)) ∙ off)
        ];
        usable = λ c within. kept c within ∙ (law.usable c within ∙ elim (cases_eq c b) [
          | inl e ↦ ap (λ (k : ℕ). is_retired (role k)) e ∙ (ap is_retired is_open ∙ (ap is_retired (sym here) ∙ ap (λ (k : ℕ). is_retired (role' k)) (sym e)))
          | inr apart ↦ ap is_retired (sym (others c apart))
        ]);
        one_spare = λ c d first second. law.one_spare c d (spare_before c first) (spare_before d second);
        spare_last = λ c d within first second. law.spare_last c d within (spare_before c first) (retired_before d second);
        outside = λ c past. elim (cases_eq c b) [ inl e ↦ absurd (omega (arith, b_in, e)) | inr apart ↦ others c apart ∙ law.outside c past ];
      }
    where
      on_off : (t : Bool) → t ≡ true → t ≡ false → ⊥
      on_off t h k = cc

      spare_before : (c : ℕ) → role' c ≡ Spare → role c ≡ Spare
      spare_before c is = elim (cases_eq c b) [ inl e ↦ absurd (closed≢spare (role' c) (ap role' e ∙ here) is) | inr apart ↦ sym (others c apart) ∙ is ]

      retired_before : (c : ℕ) → role' c ≡ Retired → role c ≡ Retired
      retired_before c is = elim (cases_eq c b) [ inl e ↦ absurd (closed≢retired (role' c) (ap role' e ∙ here) is) | inr apart ↦ sym (others c apart) ∙ is ]

  -- a block is collected: the spare is open, and the victim is the spare, or retired where its erase failed
  pub lawful-collect : (size' : ℕ → ℕ) (retired' : ℕ → Bool) (role' : ℕ → Role) (spare victim : ℕ) (failed : Bool) → open_block ≡ None
      → role spare ≡ Spare → role victim ≡ Closed → size' spare < pages → size' victim ≡ 0
      → ((c : ℕ) → c < count → c ≢ spare → c ≢ victim → size' c ≡ size c) → retired' victim ≡ failed
      → ((c : ℕ) → c < count → c ≢ victim → retired' c ≡ retired c) → role' spare ≡ Open → role' victim ≡ cond failed Retired Spare
      → ((c : ℕ) → c ≢ spare → c ≢ victim → role' c ≡ role c) → IsLawful count pages size' retired' role' (Some spare)
  lawful-collect size' retired' role' spare victim failed none is_spare is_closed room empty there marked kept opened done others =
      record {
        open_is = λ c is. elim (cases_eq c spare) [
          | inl e ↦ ap Some (sym e)
          | inr apart ↦ elim (cases_eq c victim) [
            | inl e ↦ absurd (not_open failed (sym done ∙ (ap role' (sym e) ∙ is)))
            | inr other ↦ absurd (none_some open_block c none (law.open_is c (sym (others c apart other) ∙ is)))
          ]
        ];
        open_at = λ c e. ap role' (sym (some_same spare c e)) ∙ opened;
        room = λ c is. elim (cases_eq c spare) [
          | inl e ↦ omega (arith, ap size' e, room)
          | inr apart ↦ elim (cases_eq c victim) [
            | inl e ↦ absurd (not_open failed (sym done ∙ (ap role' (sym e) ∙ is)))
            | inr other ↦ absurd (none_some open_block c none (law.open_is c (sym (others c apart other) ∙ is)))
          ]
        ];
        full = λ c is. elim (cases_eq c spare) [
          | inl e ↦ absurd (open≢closed (role' c) (ap role' e ∙ opened) is)
          | inr apart ↦ elim (cases_eq c victim) [
            | inl e ↦ absurd (not_closed failed (sym done ∙ (ap role' (sym e) ∙ is)))
            | inr other ↦ let old = sym (others c apart other) ∙ is in there c (inside c (closed≢retired (role c) old)) apart other ∙ law.full c old
          ]
        ];
        unused = λ c within off. elim (cases_eq c spare) [
          | inl e ↦ absurd (on_off (has_pages (role' c)) (ap (λ (k : ℕ). has_pages (role' k)) e ∙ ap has_pages opened) off)
          | inr apart ↦ elim (cases_eq c victim) [
            | inl e ↦ ap size' e ∙ empty
            | inr other ↦ there c within apart other ∙ law.unused c within (ap has_pages (sym (others c apart other)) ∙ off)
          ]
        ];
        usable = λ c within. elim (cases_eq c victim) [
          | inl e ↦ ap retired' e ∙ (marked ∙ (mark failed ∙ (ap is_retired (sym done) ∙ ap (λ (k : ℕ). is_retired (role' k)) (sym e))))
          | inr other ↦ kept c within other ∙ (law.usable c within ∙ elim (cases_eq c spare) [
            | inl e ↦ ap (λ (k : ℕ). is_retired (role k)) e
                ∙ (ap is_retired is_spare ∙ (ap is_retired (sym opened) ∙ ap (λ (k : ℕ). is_retired (role' k)) (sym e)))
            | inr apart ↦ ap is_retired (sym (others c apart other))
          ])
        ];
        one_spare = λ c d first second. spare_now c first ∙ sym (spare_now d second);
        spare_last = λ c d within first second.
            let v = spare_now c first in
            elim (cases_eq d spare) [
              | inl e ↦ open≢retired (role' d) (ap role' e ∙ opened) second
              | inr apart ↦ elim (cases_eq d victim) [
                | inl e ↦ spare≢retired (role' d) (ap role' (e ∙ sym v) ∙ first) second
                | inr other ↦ law.spare_last spare d within is_spare (sym (others d apart other) ∙ second)
              ]
            ];
        outside = λ c past. elim (cases_eq c spare) [
          | inl e ↦ absurd (omega (arith, inside spare (spare≢retired (role spare) is_spare), e))
          | inr apart ↦ elim (cases_eq c victim) [
            | inl e ↦ absurd (omega (arith, inside victim (closed≢retired (role victim) is_closed), e))
            | inr other ↦ others c apart other ∙ law.outside c past
          ]
        ];
      }
    where
      on_off : (t : Bool) → t ≡ true → t ≡ false → ⊥
      on_off t h k = cc

      not_open : (t : Bool) → cond t Retired Spare ≡ Open → ⊥
      not_open true h = open≢retired Open refl (sym h)
      not_open false h = open≢spare Open refl (sym h)

      not_closed : (t : Bool) → cond t Retired Spare ≡ Closed → ⊥
      not_closed true h = closed≢retired Closed refl (sym h)
      not_closed false h = closed≢spare Closed refl (sym h)

      mark : (t : Bool) → t ≡ is_retired (cond t Retired Spare)
      mark true = refl
      mark false = refl

      spare_now : (c : ℕ) → role' c ≡ Spare → c ≡ victim
      spare_now c is = elim (cases_eq c spare) [
        | inl e ↦ absurd (open≢spare (role' c) (ap role' e ∙ opened) is)
        | inr apart ↦ elim (cases_eq c victim) [
          | inl e ↦ e
          | inr other ↦ absurd (apart (law.one_spare c spare (sym (others c apart other) ∙ is) is_spare))
        ]
      ]

-- after a collection the victim is the spare, or there is none where its erase failed
pub spare-collected : (count pages : ℕ) (size : ℕ → ℕ) (retired : ℕ → Bool) (role : ℕ → Role) (open_block : Option ℕ) (victim : ℕ) (failed : Bool)
    → IsLawful count pages size retired role open_block → victim < count → role victim ≡ cond failed Retired Spare
    → KnowsSpare role (cond failed None (Some victim))
spare-collected count pages size retired role open_block victim true law low done =
    record { spare_is = λ b is. absurd (law.spare_last b victim low is done); spare_at = λ b e. absurd (none_some None b refl e) }
spare-collected count pages size retired role open_block victim false law low done =
    record { spare_is = λ b is. ap Some (law.one_spare victim b done is); spare_at = λ b e. ap role (sym (some_same victim b e)) ∙ done }
