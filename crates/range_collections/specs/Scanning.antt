-- How the text of a list of ranges is read character by character; contracts of private functions
-- use these words.
--     kind_of c              what a character is in such a text
--     expected state         what is expected at a state
--     is_end state           the text may end there
--     after state kind      the state after a character of the kind, if it may stand there
use Rattle.std.specs.Prelude.{ℕ, ◌==◌, Bool, true, false, cond, ◌||◌, Option, Some, None}
use Rattle.std.specs.Char.{is_whitespace, is_ascii_digit}
use Rattle.range_collections.specs.declared.parse.Expected.{Expected}
use Rattle.range_collections.specs.declared.parse.Expected.TheVariants.{Number as a_number, Dot as a_dot, Comma as a_comma}
use Rattle.range_collections.specs.declared.parse.Kind.{Kind}
use Rattle.range_collections.specs.declared.parse.Kind.TheVariants.{Blank, Comma, Dot, Sign, Digit, Other}
use Rattle.range_collections.specs.declared.parse.State.{State}
use Rattle.range_collections.specs.declared.parse.State.TheVariants.{First, Start, StartSign, InStart, OneDot, End, EndSign, InEnd, After}

-- what a character is
abbrev pub kind_of : ℕ → Kind
kind_of c =
    cond (c == 44) Comma (cond (c == 46) Dot (cond (c == 43 || c == 45) Sign (cond (is_ascii_digit c) Digit (cond (is_whitespace c) Blank Other))))

-- what is expected at a state
abbrev pub expected : State → Expected
expected InStart = a_dot
expected OneDot = a_dot
expected InEnd = a_comma
expected After = a_comma
expected _ = a_number

-- the text may end at the state, after a range
abbrev pub is_range_end : State → Bool
is_range_end End = true
is_range_end InEnd = true
is_range_end After = true
is_range_end _ = false

-- the text may end at the state
abbrev pub is_end : State → Bool
is_end First = true
is_end state = is_range_end state

-- the state after a blank, a comma, a dot, a sign, a digit
abbrev pub after_blank : State → Option State
after_blank First = Some First
after_blank Start = Some Start
after_blank state = cond (is_range_end state) (Some After) None

abbrev pub after_dot : State → Option State
after_dot InStart = Some OneDot
after_dot OneDot = Some End
after_dot _ = None

abbrev pub after_sign : State → Option State
after_sign First = Some StartSign
after_sign Start = Some StartSign
after_sign End = Some EndSign
after_sign _ = None

abbrev pub after_digit : State → Option State
after_digit OneDot = None
after_digit After = None
after_digit End = Some InEnd
after_digit EndSign = Some InEnd
after_digit InEnd = Some InEnd
after_digit _ = Some InStart

-- the state after a character of the kind, if it may stand there
abbrev pub after : State → Kind → Option State
after state Blank = after_blank state
after state Comma = cond (is_range_end state) (Some Start) None
after state Dot = after_dot state
after state Sign = after_sign state
after state Digit = after_digit state
after state Other = None
