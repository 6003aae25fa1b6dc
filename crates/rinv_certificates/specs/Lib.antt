-- From the bytes of a system to the text of a certificate:
--   Texts         what is printed of a certificate
--   Commands      what `certify` answers
pub mod Texts
pub mod Commands
