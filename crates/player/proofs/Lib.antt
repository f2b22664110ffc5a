mod Accepted
mod CommandLines
mod Defaults
mod Endings
mod RunTexts
