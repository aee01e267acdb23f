-- The laws of the reading: what its parts come to, and where what it found stands in the block. Assumes nothing.
use Prim.Native.Nat.{ℕ, suc, ◌+◌, ◌-◌, ◌*◌, ◌/◌, ◌≤◌, ◌<◌}
use mathlib.Core.Path.{◌≡◌, refl, sym, ap, ◌∙◌, subst}
use mathlib.Core.Bool.{Bool, true, false, ◌&&◌}
use mathlib.Core.List.{List, [], ◌∷◌}
use native.Mathlib.Nat.{zero-add}
use native.Mathlib.Numerals.{add-one}
use native.Mathlib.Omega.{arith}
use lib.ListN.{length, take, drop, get_or, length-drop}
use lib.Seq.{get_or-take, length-take-le}
use lib.Dec.{eqb, lit<}
use borrow.Author.Tests.{eq-eqb, ne_eqb, eqb-true, eqb-false}
use Rattle.std.specs.List.{starts_with}
use Rattle.util.specs.Outcome.{Outcome, result}
use Rattle.util.specs.Take.{taken_part}
use Rattle.util.proofs.Takes.{part_there, part_empty}
use Rattle.nds.specs.Params.{format}
use Rattle.nds.specs.Formats.{data_length, second_length}
use Rattle.nds.proofs.Sizes.{data_length_lt, second_length_lt}
use Rattle.errors.specs.Refusal.{bad_stamp, refusal_outcome}
use Rattle.errors.specs.declared.Refusal.{Refusal}
use Rattle.errors.specs.declared.Refusal.TheVariants.{Stamp}
use Rattle.errors.proofs.Refusals as refusals
use Rattle.errors.specs.declared.Kind.TheVariants as kinds
use Rattle.scripts.specs.Script.{done, fault, whole, run, outcome_of, passing, bytes_at, each, each_from}
use Rattle.info_block.specs.InfoBlock.{NameList, list_at, list_length, name_list, entry_name, entry_number}
use Rattle.reading.specs.Tex as Tex
use Rattle.reading.specs.Tex.{Contents, has_stamp, header_of, palette_at, read_header, read_pal_block, read_second, read_data}
use Rattle.layout.specs.Positions.{data_at, second_at}
use Rattle.reading.specs.Tex.{read_texture, read_textures, read_palettes, read_tex}
use Rattle.reading.specs.Layouts.{counting, each_texture, layout_answer}
use Rattle.layout.specs.declared.Header.{Header}
use Rattle.scripts.proofs.Runs.{taken_whole, take_within, take_length, whole_outcome, fault_outcome, ended, refused, each_turn, each_none, each_follows, follows_trans}
use Rattle.scripts.proofs.Runs.{onward, both, bytes_in, bytes_whole, expect_met, expect_failed, expect_held, expected, outcome_map, outcome_bind}
use Rattle.scripts.proofs.Runs.{outcome_same, each_count, each_done, each_length, each_at, Follows, follows_bind, follows_self, follows_onward}
use Rattle.info_block.proofs.Lists.{name_listed, list_read}

-- the stamp as the first four bytes
eqb_turned : (a b : ℕ) → eqb a b ≡ eqb b a
eqb_turned a b = go (eqb a b) refl
  where
    go : (t : Bool) → eqb a b ≡ t → eqb a b ≡ eqb b a
    go true q = q ∙ sym (eq-eqb b a (sym (eqb-true a b q)))
    go false q = q ∙ sym (ne_eqb b a (λ e. eqb-false a b q (sym e)))

all_four : (p q r s : Bool) → p && (q && (r && (s && true))) ≡ p && q && r && s
all_four true true true true = refl
all_four true true true false = refl
all_four true true false s = refl
all_four true false r s = refl
all_four false q r s = refl

pub stamp_starts : (head : List ℕ) → 4 ≤ length head → starts_with eqb head (84 ∷ 69 ∷ 88 ∷ 48 ∷ []) ≡ has_stamp head
stamp_starts (t ∷ e ∷ x ∷ n ∷ later) h =
    rw (eqb_turned 84 t, eqb_turned 69 e, eqb_turned 88 x, eqb_turned 48 n) (all_four (eqb t 84) (eqb e 69) (eqb x 88) (eqb n 48))
stamp_starts (t ∷ e ∷ x ∷ []) h = absurd (omega arith)
stamp_starts (t ∷ e ∷ []) h = absurd (omega arith)
stamp_starts (t ∷ []) h = absurd (omega arith)
stamp_starts [] h = absurd (omega arith)

-- where it stands in the block
pub stamp_there : (b : List ℕ) → has_stamp (take 60 b) ≡ has_stamp b
stamp_there b =
    rw (get_or-take 60 b 0 0 (lit< tt), get_or-take 60 b 1 0 (lit< tt), get_or-take 60 b 2 0 (lit< tt), get_or-take 60 b 3 0 (lit< tt))

-- the header
module _ (b : List ℕ) where
  pub header_follows : Follows (run (bytes_at 0 60) b) (run read_header b)
  unfolding read_header
  header_follows = follows_bind (bytes_at 0 60) _ b

  module _ (within : 60 ≤ length b) where
    pub stamp_bad : has_stamp (take 60 b) ≡ false → run read_header b ≡ fault bad_stamp
    unfolding read_header
    stamp_bad e = onward (bytes_at 0 60) _ b (bytes_in 0 60 b within) ∙ expect_failed _ bad_stamp _ b e

    pub header_read : has_stamp (take 60 b) ≡ true → run read_header b ≡ whole (header_of (take 60 b))
    unfolding read_header run
    header_read e = onward (bytes_at 0 60) _ b (bytes_in 0 60 b within) ∙ expect_met _ bad_stamp _ b e

  pub header_there : {h : Header} → run read_header b ≡ whole h → (60 ≤ length b) × (has_stamp (take 60 b) ≡ true)
  unfolding read_header
  header_there e =
      let o = both (bytes_at 0 60) _ b e in
      let head = bytes_whole 0 60 b o.first in
      (head.within, rw (sym head.same) (expect_held _ bad_stamp _ b o.second))

  pub header_whole : {h : Header} → run read_header b ≡ whole h → h ≡ header_of (take 60 b)
  unfolding read_header run
  header_whole e =
      let o = both (bytes_at 0 60) _ b e in
      let p = expected _ bad_stamp _ b o.second in
      cc (ap header_of (bytes_whole 0 60 b o.first).same)

-- a texture's data
module _ (h : Header) (w : ℕ) (b : List ℕ) where
  pub second_taken : format w ≡ 5 → bytes_at (second_at h w) (second_length w) ≡ read_second h w
  unfolding read_second second_length
  second_taken e = rw (eq-eqb (format w) 5 e)

  pub second_none : (format w ≡ 5 → ⊥) → run (read_second h w) b ≡ whole []
  unfolding read_second run
  second_none e = rw (ne_eqb (format w) 5 e)

  pub data_follows : Follows (run (bytes_at (data_at h w) (data_length w)) b) (run (read_data h w) b)
  unfolding read_data
  data_follows = follows_bind (bytes_at (data_at h w) (data_length w)) _ b

  pub first_taken : {B : Type 0} (r : B) → data_at h w + data_length w ≤ length b
      → outcome_of (run (read_second h w) b) (λ _. result r) ≡ outcome_of (run (read_data h w) b) (λ _. result r)
  unfolding read_data
  first_taken r within =
      sym
      (ap (λ x. outcome_of x (λ _. result r)) (onward (bytes_at (data_at h w) (data_length w)) _ b (bytes_in (data_at h w) (data_length w) b within))
      ∙ outcome_map (read_second h w) b (λ _. result r) _)

-- a texture
module _ (h : Header) (list : NameList) (i : ℕ) (b : List ℕ) where
  pub texture_follows : Follows (run (read_data h (entry_number kinds.Texture 4 list i)) b) (run (read_texture h list i) b)
  unfolding read_texture
  texture_follows = follows_bind (read_data h (entry_number kinds.Texture 4 list i)) _ b

  pub texture_read : {parts : Tex.Data} → run (read_data h (entry_number kinds.Texture 4 list i)) b ≡ whole parts
      → run (read_texture h list i) b
      ≡ whole (record { name = entry_name kinds.Texture list i; word = entry_number kinds.Texture 4 list i; parts = parts })
  unfolding read_texture run
  texture_read e = onward (read_data h (entry_number kinds.Texture 4 list i)) _ b e

-- the lists
module _ (h : Header) (b : List ℕ) where
  pub textures_follow : Follows (run (name_list kinds.Texture h.texture_off) b) (run (read_textures h) b)
  unfolding read_textures
  textures_follow = follows_bind (name_list kinds.Texture h.texture_off) _ b

  pub textures_read : {list : NameList} → run (name_list kinds.Texture h.texture_off) b ≡ whole list
      → run (each list.count (read_texture h list)) b ≡ run (read_textures h) b
  unfolding read_textures
  textures_read e = sym (onward (name_list kinds.Texture h.texture_off) _ b e)

  pub palettes_read : outcome_of (run (name_list kinds.Palette h.palette_off) b) (λ list. result list.count)
      ≡ outcome_of (run (read_palettes h) b) (λ palettes. result (length palettes))
  unfolding read_palettes
  palettes_read =
      outcome_same _ _ _ (λ list e. each_done _ b 0 list.count list.count ∙ each_count _ b list.count)
      ∙ sym (outcome_bind (name_list kinds.Palette h.palette_off) b _ (λ list. each list.count (λ i. done (palette_at list i))))

-- the whole reading, by how far it came
module _ (b : List ℕ) where
  pub read_header_follows : Follows (run read_header b) (run read_tex b)
  unfolding read_tex
  read_header_follows = follows_bind read_header _ b

  module _ {h : Header} (header : run read_header b ≡ whole h) where
    pub read_pal_block_follows : Follows (run (read_pal_block h) b) (run read_tex b)
    unfolding read_tex
    read_pal_block_follows = follows_onward read_header _ b header (follows_bind (read_pal_block h) _ b)

    module _ {pal_block : List ℕ} (there : run (read_pal_block h) b ≡ whole pal_block) where
      pub read_textures_follows : Follows (run (read_textures h) b) (run read_tex b)
      unfolding read_tex
      read_textures_follows =
          follows_onward read_header _ b header (follows_onward (read_pal_block h) _ b there (follows_bind (read_textures h) _ b))

      module _ {textures : List Tex.Texture} (first : run (read_textures h) b ≡ whole textures) where
        pub read_palettes_follows : Follows (run (read_palettes h) b) (run read_tex b)
        unfolding read_tex
        read_palettes_follows =
            follows_onward read_header _ b header
            (follows_onward (read_pal_block h) _ b there (follows_onward (read_textures h) _ b first (follows_bind (read_palettes h) _ b)))

        pub read_whole : {palettes : List Tex.Palette} → run (read_palettes h) b ≡ whole palettes
            → run read_tex b ≡ whole (record { textures = textures; palettes = palettes; pal_block = pal_block })
        unfolding read_tex run
        read_whole last =
            onward read_header _ b header
            ∙ (onward (read_pal_block h) _ b there ∙ (onward (read_textures h) _ b first ∙ onward (read_palettes h) _ b last))

-- and what a finished reading says of its parts
pub record Finished (b : List ℕ) (c : Contents) : Type 0 where
  pub pal_block_lem : run (read_pal_block (header_of (take 60 b))) b ≡ whole c.pal_block
  pub textures : run (read_textures (header_of (take 60 b))) b ≡ whole c.textures
  pub palettes : run (read_palettes (header_of (take 60 b))) b ≡ whole c.palettes

pub finished : (b : List ℕ) {c : Contents} → run read_tex b ≡ whole c → Finished b c
unfolding read_tex run
finished b {c} e =
    let o = both read_header _ b e in
    let p = both (read_pal_block o.middle) _ b o.second in
    let q = both (read_textures o.middle) _ b p.second in
    let r = both (read_palettes o.middle) _ b q.second in
    let h = header_whole b o.first in
    record {
      pal_block_lem = rw (sym h) (p.first ∙ cc r.second);
      textures = rw (sym h) (q.first ∙ cc r.second);
      palettes = rw (sym h) (r.first ∙ cc r.second);
    }

-- data that were read, as parts of the block
pub record Parts (h : Header) (w : ℕ) (b : List ℕ) (parts : Tex.Data) : Type 0 where
  pub first : parts.data1 ≡ taken_part (data_at h w) (data_length w) b
  pub first_length : length parts.data1 ≡ data_length w
  pub second : parts.data2 ≡ taken_part (second_at h w) (second_length w) b
  pub second_length_lem : length parts.data2 ≡ second_length w

-- a part that was read is as long as it was asked for
bytes_length : (p n : ℕ) (b : List ℕ) {part : List ℕ} → run (bytes_at p n) b ≡ whole part → length part ≡ n
bytes_length p n b e =
    let there = bytes_whole p n b e in
    rw there.same (length-take-le n (drop p b) (rw length-drop (omega (arith, there.within))))

module _ (h : Header) (w : ℕ) (b : List ℕ) where
  second_whole : {part : List ℕ} → run (read_second h w) b ≡ whole part
      → (part ≡ taken_part (second_at h w) (second_length w) b) × (length part ≡ second_length w)
  unfolding read_second run second_length
  second_whole {part} e = go (eqb (format w) 5) refl
    where
      go : (t : Bool) → eqb (format w) 5 ≡ t → (part ≡ taken_part (second_at h w) (second_length w) b) × (length part ≡ second_length w)
      go true q =
          let read = rw q at e in
          let there = bytes_whole (second_at h w) (data_length w / 2) b read in (
            there.same ∙ (part_there (second_at h w) (data_length w / 2) b there.within ∙ rw q),
            bytes_length (second_at h w) (data_length w / 2) b read ∙ rw q,
          )
      go false q = let none : part ≡ [] = cc (rw q at e) in (none ∙ (sym (part_empty (second_at h w) b) ∙ rw q), rw (none, q))

  pub data_whole : {parts : Tex.Data} → run (read_data h w) b ≡ whole parts → Parts h w b parts
  unfolding read_data run
  data_whole {parts} e =
      let o = both (bytes_at (data_at h w) (data_length w)) _ b e in
      let p = both (read_second h w) _ b o.second in
      let there = bytes_whole (data_at h w) (data_length w) b o.first in
      let first : parts.data1 ≡ o.middle = cc p.second in
      let second : parts.data2 ≡ p.middle = cc p.second in
      record {
        first = cc (first, there.same, part_there (data_at h w) (data_length w) b there.within);
        first_length = rw first (bytes_length _ _ b o.first);
        second = second ∙ (second_whole p.first).0;
        second_length_lem = rw second (second_whole p.first).1;
      }

-- entry n of a list that was read
pub record TextureAt (h : Header) (list : NameList) (n : ℕ) (b : List ℕ) (t : Tex.Texture) : Type 0 where
  pub name : t.name ≡ entry_name kinds.Texture list n
  pub word : t.word ≡ entry_number kinds.Texture 4 list n
  pub parts : Parts h (entry_number kinds.Texture 4 list n) b t.parts

texture_whole : (h : Header) (list : NameList) (n : ℕ) (b : List ℕ) {t : Tex.Texture}
    → run (read_texture h list n) b ≡ whole t → TextureAt h list n b t
unfolding read_texture run
texture_whole h list n b {t} e =
    let o = both (read_data h (entry_number kinds.Texture 4 list n)) _ b e in
    let p : t.parts ≡ o.middle = cc o.second in
    record {
      name = cc o.second;
      word = cc o.second;
      parts = rw p (data_whole h (entry_number kinds.Texture 4 list n) b o.first);
    }

module _ (h : Header) (b : List ℕ) {textures : List Tex.Texture} (read : run (read_textures h) b ≡ whole textures) where
  pub record TexturesListed : Type 0 where
    pub within : h.texture_off + list_length kinds.Texture (length textures) ≤ length b
    pub at : (n : ℕ) (d : Tex.Texture) → n < length textures
        → TextureAt h (list_at kinds.Texture h.texture_off (length textures) b) n b (get_or textures n d)

  pub textures_listed : TexturesListed
  unfolding read_textures
  textures_listed =
      let o = both (name_list kinds.Texture h.texture_off) _ b read in
      let l = name_listed kinds.Texture h.texture_off b o.first in
      let c = each_length (read_texture h o.middle) b 0 o.middle.count o.second in
      let is : o.middle ≡ list_at kinds.Texture h.texture_off (length textures) b = l.is ∙ rw c in
      record {
        within = rw c l.within;
        at = λ n d below.
            subst (λ list. TextureAt h list n b (get_or textures n d)) is
            (texture_whole h o.middle n b
            (rw zero-add at (each_at (read_texture h o.middle) b 0 o.middle.count o.second n d (omega arith))));
      }

module _ (h : Header) (b : List ℕ) {palettes : List Tex.Palette} (read : run (read_palettes h) b ≡ whole palettes) where
  pub record PalettesListed : Type 0 where
    pub within : h.palette_off + list_length kinds.Palette (length palettes) ≤ length b
    pub at : (n : ℕ) (d : Tex.Palette) → n < length palettes
        → get_or palettes n d ≡ palette_at (list_at kinds.Palette h.palette_off (length palettes) b) n

  pub palettes_listed : PalettesListed
  unfolding read_palettes run
  palettes_listed =
      let o = both (name_list kinds.Palette h.palette_off) _ b read in
      let l = name_listed kinds.Palette h.palette_off b o.first in
      let c = each_length (λ i. done (palette_at o.middle i)) b 0 o.middle.count o.second in
      let is : o.middle ≡ list_at kinds.Palette h.palette_off (length palettes) b = l.is ∙ rw c in
      record {
        within = rw c l.within;
        at = λ n d below.
            let e = each_at (λ i. done (palette_at o.middle i)) b 0 o.middle.count o.second n d (omega arith) in
            let q : palette_at o.middle n ≡ get_or palettes n d = cc (rw zero-add at e) in
            sym q ∙ ap (λ list. palette_at list n) is;
      }

-- the palette block
pub pal_block_whole : (h : Header) (b : List ℕ) {pal_block : List ℕ} → run (read_pal_block h) b ≡ whole pal_block
    → pal_block ≡ taken_part h.pal_block_off (8 * h.pal_block_len_shr_3) b
unfolding read_pal_block
pal_block_whole h b e =
    let there = bytes_whole h.pal_block_off (8 * h.pal_block_len_shr_3) b e in
    there.same ∙ part_there _ _ _ there.within

-- The laws in the form of the goals: what each function answers, by what it called.

-- the header
module _ (b : List ℕ) where
  pub header_refused : (r : Refusal) → refusal_outcome r ≡ outcome_of (run (bytes_at 0 60) b) result
      → refusal_outcome r ≡ outcome_of (run read_header b) result
  header_refused r e = refused _ _ (header_follows b) (λ head. head) _ r e

  module _ {head : List ℕ} (taken : result head ≡ outcome_of (run (bytes_at 0 60) b) result) where
    pub stamp_refused : has_stamp head ≡ false → refusal_outcome Stamp ≡ outcome_of (run read_header b) result
    unfolding read_header
    stamp_refused e = fault_outcome result (onward (bytes_at 0 60) _ b (taken_whole 0 60 b taken) ∙ expect_failed _ bad_stamp _ b e)

    pub header_found : has_stamp head ≡ true → result (header_of head) ≡ outcome_of (run read_header b) result
    unfolding read_header run
    header_found e = whole_outcome result (onward (bytes_at 0 60) _ b (taken_whole 0 60 b taken) ∙ expect_met _ bad_stamp _ b e)

-- data
module _ (h : Header) (w : ℕ) (b : List ℕ) where
  pub first_refused : (p n : ℕ) → p ≡ data_at h w → n ≡ data_length w → (r : Refusal) → refusal_outcome r ≡ outcome_of (run (bytes_at p n) b) result
      → refusal_outcome r ≡ passing (read_data h w) b
  first_refused p n s t r e = refused _ _ (data_follows h w b) (λ data1. data1) _ r (rw (s, t) at e)

  module _ (p n : ℕ) (s : p ≡ data_at h w) (t : n ≡ data_length w) {data1 : List ℕ} (first : result data1 ≡ outcome_of (run (bytes_at p n) b) result) where
    same : passing (read_second h w) b ≡ passing (read_data h w) b
    same = first_taken h w b (tt {0}) (take_within _ _ _ (rw (s, t) at first))

    pub second_refused : (r : Refusal) → refusal_outcome r ≡ outcome_of (run (read_second h w) b) result → refusal_outcome r ≡ passing (read_data h w) b
    second_refused r e = refused _ _ (follows_self (run (read_second h w) b)) (λ data2. data2) _ r e ∙ same

    pub both_taken : {data2 : List ℕ} → result data2 ≡ outcome_of (run (read_second h w) b) result → result (tt {0}) ≡ passing (read_data h w) b
    both_taken e = whole_outcome (λ _. result (tt {0})) (ended _ (λ data2. data2) e).is ∙ same

  pub second_asked : format w ≡ 5 → outcome_of (run (bytes_at (second_at h w) (second_length w)) b) result ≡ outcome_of (run (read_second h w) b) result
  second_asked e = ap (λ s. outcome_of (run s b) result) (second_taken h w b e)

  pub second_left : (format w ≡ 5 → ⊥) → result [] ≡ outcome_of (run (read_second h w) b) result
  second_left e = whole_outcome result (second_none h w b e)

-- the texture list
module _ (h : Header) (b : List ℕ) where
  pub textures_refused : (r : Refusal) → refusal_outcome r ≡ outcome_of (run (name_list kinds.Texture h.texture_off) b) result
      → refusal_outcome r ≡ counting (read_textures h) b
  textures_refused r e = refused _ _ (textures_follow h b) (λ list. list) _ r e

  pub textures_counted : {list : NameList} {c : ℕ} → c ≡ list.count → result list ≡ outcome_of (run (name_list kinds.Texture h.texture_off) b) result
      → counting (each_texture h c list) b ≡ counting (read_textures h) b
  textures_counted q e = rw q (ap (λ x. outcome_of x (λ found. result (length found))) (textures_read h b (list_read kinds.Texture _ b e)))

-- the palette list
module _ (h : Header) (b : List ℕ) where
  pub palettes_refused : (r : Refusal) → refusal_outcome r ≡ outcome_of (run (name_list kinds.Palette h.palette_off) b) result
      → refusal_outcome r ≡ counting (read_palettes h) b
  unfolding read_palettes
  palettes_refused r e = refused _ _ (follows_bind (name_list kinds.Palette h.palette_off) _ b) (λ list. list) _ r e

  pub palettes_counted : {list : NameList} → result list ≡ outcome_of (run (name_list kinds.Palette h.palette_off) b) result
      → result list.count ≡ counting (read_palettes h) b
  palettes_counted e = whole_outcome (λ list. result list.count) (list_read kinds.Palette _ b e) ∙ palettes_read h b

-- the textures of a list, one after another: the outcome of n of them from i on
module _ (b : List ℕ) (h : Header) (count : ℕ) (list : NameList) where
  abbrev pub row : (i n : ℕ) → Outcome ℕ
  row i n = outcome_of (run (each_from i n (read_texture h list)) b) (λ _. result count)

  pub row_start : row 0 (count - 0) ≡ counting (each_texture h count list) b
  row_start = let e : count - 0 ≡ count = omega arith in ap (row 0) e ∙ each_count _ _ count

  pub row_end : (i : ℕ) → count ≤ i → result count ≡ row i (count - i)
  row_end i l = let e : 0 ≡ count - i = omega arith in each_none (read_texture h list) b i count ∙ ap (row i) e

  module _ (i : ℕ) (l : i < count) where
    unrolled : row i (suc (count - (i + 1))) ≡ row i (count - i)
    unrolled = let e : suc (count - (i + 1)) ≡ count - i = omega arith in ap (row i) e

    pub row_refused : (w : ℕ) → w ≡ entry_number kinds.Texture 4 list i → (r : Refusal)
        → refusal_outcome r ≡ passing (read_data h w) b → refusal_outcome r ≡ row i (count - i)
    row_refused w q r e =
        refused _ _ (follows_trans (texture_follows h list i b) (each_follows (read_texture h list) b i (count - (i + 1)))) _ _ r (rw q at e)
        ∙ unrolled

    pub row_turn : (w : ℕ) → w ≡ entry_number kinds.Texture 4 list i
        → result (tt {0}) ≡ passing (read_data h w) b → row (i + 1) (count - (i + 1)) ≡ row i (count - i)
    row_turn w q e =
        let there = ended _ _ (rw q at e) in
        ap (λ k. row k (count - (i + 1))) (add-one i)
        ∙ (sym (each_turn (read_texture h list) b i (count - (i + 1)) count (texture_read h list i b there.is)) ∙ unrolled)

-- the whole block, by how far the reading came
module _ (b : List ℕ) where
  pub header_refuses : (r : Refusal) → refusal_outcome r ≡ outcome_of (run read_header b) result → refusal_outcome r ≡ layout_answer b (run read_tex b)
  unfolding layout_answer
  header_refuses r e = refused _ _ (read_header_follows b) (λ h. h) _ r e

  module _ {h : Header} (first : result h ≡ outcome_of (run read_header b) result) where
    header_is : run read_header b ≡ whole h
    header_is = let e = ended _ (λ h. h) first in e.is ∙ ap whole (sym e.gives)

    pub pal_block_refuses : (r : Refusal) → refusal_outcome r ≡ outcome_of (run (read_pal_block h) b) result
        → refusal_outcome r ≡ layout_answer b (run read_tex b)
    unfolding layout_answer
    pal_block_refuses r e = refused _ _ (read_pal_block_follows b header_is) (λ part. part) _ r e

    module _ {pal_block : List ℕ} (second : result pal_block ≡ outcome_of (run (read_pal_block h) b) result) where
      pub textures_refuse : (r : Refusal) → refusal_outcome r ≡ counting (read_textures h) b → refusal_outcome r ≡ layout_answer b (run read_tex b)
      unfolding layout_answer
      textures_refuse r e =
          let block = ended (run (read_pal_block h) b) (λ part. part) second in
          refused _ _ (read_textures_follows b header_is block.is) _ _ r e

      module _ {textures : ℕ} (third : result textures ≡ counting (read_textures h) b) where
        pub palettes_refuse : (r : Refusal) → refusal_outcome r ≡ counting (read_palettes h) b → refusal_outcome r ≡ layout_answer b (run read_tex b)
        unfolding layout_answer
        palettes_refuse r e =
            let block = ended (run (read_pal_block h) b) (λ part. part) second in
            let listed = ended (run (read_textures h) b) length third in
            refused _ _ (read_palettes_follows b header_is block.is listed.is) _ _ r e

        pub block_laid : {palettes : ℕ} → result palettes ≡ counting (read_palettes h) b
            → result (record { header = h; textures = textures; palettes = palettes }) ≡ layout_answer b (run read_tex b)
        unfolding layout_answer
        block_laid e =
            let block = ended (run (read_pal_block h) b) (λ part. part) second in
            let listed = ended (run (read_textures h) b) length third in
            let last = ended (run (read_palettes h) b) length e in
            rw (header_whole b header_is, listed.gives, last.gives)
            (whole_outcome _ (read_whole b header_is block.is listed.is last.is))

-- for the functions that read the header, the data and the lists
pub ruleset reads = (
  refusals.passed_on,
  refusals.passed_as,
  take_length,
  data_length_lt,
  second_length_lt,
  header_refused,
  stamp_refused,
  header_found,
  first_refused,
  second_refused,
  both_taken,
  second_asked,
  second_left,
  textures_refused,
  textures_counted,
  palettes_refused,
  palettes_counted,
)

-- for those that go through the textures, and through the block
pub ruleset goes = (
  refusals.passed_on,
  row_start,
  row_end,
  row_refused,
  row_turn,
)

pub ruleset lays = (
  refusals.passed_on,
  header_refuses,
  pal_block_refuses,
  textures_refuse,
  palettes_refuse,
  block_laid,
)
