-- The wrap word. Assumes nothing.
use Rattle.std.specs.Prelude.{ℕ, Bool, true, false, List, codes}
use Rattle.nds.specs.declared.wrap.Wrap.{Wrap}
use Rattle.nds.specs.declared.wrap.Wrap.TheVariants.{Clamp, Repeat, Mirror}

-- 01, "Records": "It is `mirror` where the mirror bit is set, else `repeat` where the repeat bit is set, else `clamp`."
abbrev pub wrap_of : (repeat mirror : Bool) → Wrap
wrap_of repeat true = Mirror
wrap_of true false = Repeat
wrap_of false false = Clamp

-- The word itself: "each axis has a wrap word. It is `mirror` .., else `repeat` .., else `clamp`."
unfoldable pub wrap_word : Wrap → List ℕ
wrap_word Clamp = codes "clamp"
wrap_word Repeat = codes "repeat"
wrap_word Mirror = codes "mirror"
