pub mod Runs
pub mod Complete
pub mod Reached
pub mod NamesInTurn
mod Keys
mod Absent
pub mod MadeNames
pub mod WordsInTurn
pub mod Sound
pub mod Parses
pub mod Postfix
pub mod Malformed
pub mod Words
pub mod Unambiguous
pub mod OneReading
pub mod Tokenwise
pub mod Prefixes
pub mod DigitFacts
pub mod Places
pub mod Joined
mod TermsInTurn
mod Descending
mod SortedMonomials
mod DescendingTerms
mod OneTerm
pub mod Lengths
pub mod Lexing
pub mod Caps
pub mod Stepwise
pub mod Judged
pub mod Seen
pub mod RingProducts
pub mod Constants
pub mod Low
pub mod Standing
pub mod Crossings
pub mod Definitions
pub mod Numbers
pub mod Powers
pub mod Piles
pub mod Read
pub mod Denoted
pub mod Readable
pub mod Expressions
pub mod PrintedTokens
pub mod PrintedBytes
pub mod PrintedPhrases
pub mod PrintedTerms
pub mod PrintedOrder
pub mod PrintedSums
pub mod Agreeing
pub mod PlainTokens
pub mod PrintedFractions
pub mod FractionAnswers
pub mod KeptFractions
pub mod SystemParts
