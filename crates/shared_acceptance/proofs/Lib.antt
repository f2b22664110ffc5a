mod Rested
